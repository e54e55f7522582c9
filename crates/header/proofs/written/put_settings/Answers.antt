use Rattle.std.proofs.Common.{sym}
use Rattle.lines.specs.Put.{put_both, put_text}
use Rattle.retuning.specs.Kept.{settings_bytes}
use Rattle.header.proofs.written.put_settings.Goals as goal

pub returns : goal.returns
unfolding settings_bytes
returns c =
    put_both (put_both (put_both (put_both c.put_two.ensures c.put_two-2.ensures) c.put_two-3.ensures) (put_text (sym c.limit_number.ensures.is) c.put_two-4.ensures))
    (rw (c.policy_byte.ensures, c.flag_byte.ensures) at c.put_all.ensures)
