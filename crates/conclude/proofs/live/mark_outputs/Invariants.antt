use Rattle.conclude.specs.Live.{Marked}
use Rattle.conclude.proofs.live.mark_outputs.Given as goal

abbrev pub invariant-loop-output : goal.invariant-loop-output
invariant-loop-output l = Marked l.outputs l.output-index l.initial.marks l.marks
