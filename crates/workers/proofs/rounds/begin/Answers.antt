use Rattle.std.proofs.Common.{arith}
use Rattle.workers.specs.Begun.{begins_none, begins_more}
use Rattle.workers.proofs.rounds.begin.Goals as goal

pub loop-boot-init : goal.loop-boot-init
loop-boot-init c = begins_none _ _

pub loop-boot-preserved : goal.loop-boot-preserved
loop-boot-preserved c = begins_more _ _ _ _ _ c.loop-boot.invariant 0 c.loop-boot-test.true (omega (arith, c.requires c.loop-boot.boot-index 0 c.loop-boot-test.true))
