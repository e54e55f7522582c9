use Rattle.std.proofs.Common.{arith}
use Rattle.workers.specs.Begun.{starts_next}
use Rattle.workers.proofs.put_starts.Goals as goal

pub loop-k-preserved : goal.loop-k-preserved
loop-k-preserved c = starts_next c.args.begun.now c.args.boots.now c.args.starts.now c.loop-k.starts c.loop-k.k c.loop-k.invariant (omega (arith, c.requires.few)) _ c.unwrap_or.ensures c.loop-k-test.true
