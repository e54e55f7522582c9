use Rattle.lines.specs.Put.{put_both}
use Rattle.rules.specs.Writing.{node_text}
use Rattle.lines.proofs.line.put_boot.Goals as goal

pub returns : goal.returns
unfolding node_text
returns c = (put_both (put_both (put_both (put_both c.put_all.ensures c.put_number.ensures) c.put.ensures) c.put_bits.ensures) c.put_all-2.ensures)
