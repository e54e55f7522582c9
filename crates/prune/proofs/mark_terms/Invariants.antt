use Rattle.prune.specs.Prune.{MarkedTo}
use Rattle.prune.proofs.mark_terms.Given as goal

-- `prune::mark_terms` meets its contract: those of the first terms are marked.
abbrev pub invariant-loop-term : goal.invariant-loop-term
invariant-loop-term l = MarkedTo l.terms l.term-index l.initial.marks l.marks
