use Rattle.std.proofs.Common.{◌≡◌, ◌≤◌, List, ℕ, length}
use Rattle.prune.specs.Prune.{Marks, Numbering}
use Rattle.prune.proofs.renumber.Given as goal

-- `prune::renumber` meets its contract: the nodes below i have their numbers.
abbrev pub invariant-loop-i : goal.invariant-loop-i
invariant-loop-i l = (l.next ≤ l.i) × (length l.numbers ≡ 672) × ((kept : List ℕ) → Marks kept l.fn.marks → Numbering kept l.numbers l.i l.next)
