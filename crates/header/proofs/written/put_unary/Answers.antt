use Rattle.lines.specs.Put.{put_both}
use Rattle.header.proofs.written.put_unary.Goals as goal

pub returns : goal.returns
returns c = put_both c.put.ensures (put_both c.put_wire.ensures c.put_all.ensures)
