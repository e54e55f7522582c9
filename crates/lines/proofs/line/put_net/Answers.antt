use Rattle.lines.specs.Put.{put_both}
use Rattle.lines.proofs.line.put_net.Goals as goal

pub returns : goal.returns
returns c = (put_both (put_both (put_both (put_both (put_both (put_both c.put_all.ensures c.put_number.ensures) c.put.ensures) c.put_number-2.ensures) c.put-2.ensures) c.put_norm.ensures) c.put_all-2.ensures)
