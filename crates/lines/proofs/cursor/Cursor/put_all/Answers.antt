use Rattle.lines.specs.Put.{byte_step}
use Rattle.lines.proofs.cursor.Cursor.put_all.Goals as goal

pub loop-b-preserved : goal.loop-b-preserved
loop-b-preserved c = byte_step c.args.bytes.now c.loop-b.b-index c.loop-b-test.true c.loop-b.invariant c.put.ensures
