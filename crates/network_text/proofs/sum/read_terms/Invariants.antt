use Rattle.std.proofs.Common.{length}
use Rattle.network_text.proofs.Gathered.{Kept}
use Rattle.network_text.proofs.sum.read_terms.Given as goal

abbrev pub invariant-loop-coef : goal.invariant-loop-coef
invariant-loop-coef l = Kept l.s l.constant l.t l.rest

abbrev pub decreases-loop-coef : goal.decreases-loop-coef
decreases-loop-coef l = length l.rest
