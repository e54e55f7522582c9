use Rattle.outputs.specs.OutputsWalk.{wire_at}
use Rattle.conclude.specs.Live.{marked_none, marked_next}
use Rattle.conclude.proofs.live.mark_outputs.Goals as goal

pub loop-output-init : goal.loop-output-init
loop-output-init c = marked_none _ _

pub mark_output-requires : goal.mark_output-requires
mark_output-requires c = wire_at _ _ _ _ c.loop-output-test.true c.requires

pub loop-output-preserved : goal.loop-output-preserved
loop-output-preserved c = marked_next _ _ c.loop-output.invariant _ c.loop-output-test.true c.mark_output.ensures
