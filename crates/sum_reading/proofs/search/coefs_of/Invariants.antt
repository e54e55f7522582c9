use Rattle.std.proofs.Common.{◌≡◌, length}
use Rattle.sum_reading.specs.Nodes.{coefs_to}
use Rattle.sum_reading.proofs.search.coefs_of.Given as goal

-- those of the terms so far
abbrev pub invariant-loop-term : goal.invariant-loop-term
invariant-loop-term l = (l.coefs.items ≡ coefs_to l.terms l.term-index) × (length l.coefs.items ≡ l.term-index)
