use Rattle.std.proofs.Common.{to_z-of_z}
use Rattle.lines.specs.Put.{put_both, put_as}
use Rattle.lines.specs.Lines.{term_text}
use Rattle.lines.proofs.line.put_term.Goals as goal

pub returns : goal.returns
unfolding term_text
returns c = (put_both (put_both (put_both (put_both c.put_all.ensures (put_as (to_z-of_z c.ranges.c) c.put_signed.ensures)) c.put.ensures) c.put_number.ensures) c.put-2.ensures)
