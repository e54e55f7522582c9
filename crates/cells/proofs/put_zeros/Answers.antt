use Rattle.cells.specs.Pieces.{zero_step}
use Rattle.cells.proofs.put_zeros.Goals as goal

pub loop-preserved : goal.loop-preserved
loop-preserved c = zero_step c.args.n c.loop.counter c.loop-test.true c.loop.invariant c.put.ensures
