use Rattle.network_bounds.proofs.Summing.{Summing}
use Rattle.network_bounds.proofs.bounds.sum_bounds.Given as goal

abbrev pub invariant-loop-term : goal.invariant-loop-term
invariant-loop-term l = Summing l.constant l.terms l.least l.greatest l.term-index
