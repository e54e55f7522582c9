use Rattle.std.proofs.Common.{arith}
use Rattle.vectors_map.specs.Bytes.{fed_next, fed_done}
use Rattle.vectors_map.proofs.take_bytes.Goals as goal

pub loop-b-preserved : goal.loop-b-preserved
loop-b-preserved g c = fed_next _ _ c.args.bytes.now c.loop-b.b-index c.loop-b.invariant _ _ _ (omega arith) c.feed_byte.ensures.step

pub returns : goal.returns
returns g c = fed_done _ _ c.args.bytes.now c.loop-b.b-index c.loop-b.invariant (omega arith)
