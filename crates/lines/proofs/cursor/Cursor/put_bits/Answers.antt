use Rattle.lines.specs.Put.{bit-step}
use Rattle.lines.proofs.cursor.Cursor.put_bits.Goals as goal

pub loop-bit-preserved : goal.loop-bit-preserved
loop-bit-preserved c = bit-step c.args.table.now c.loop-bit.bit-index c.loop-bit-test.true c.loop-bit.invariant c.put.ensures
