use Rattle.lines.specs.Put.{put_both}
use Rattle.lines.proofs.line.put_numbered.Goals as goal

pub returns : goal.returns
returns c = (put_both (put_both c.put_all.ensures c.put_number.ensures) c.put.ensures)
