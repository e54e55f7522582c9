use Rattle.std.proofs.Common.{◌≡◌}
use Rattle.laws.specs.Front.{Filling}
use Rattle.rules.specs.Composition.{gate_truth}
use Rattle.theorems.specs.SourceRows.{row_over}
use Rattle.cone.specs.View.{cone_of}
use Rattle.compose.proofs.composed_truth.Given as goal

-- `compose::composed_truth` meets its contract: the right row steps with the assignment, and the rows passed have the gate's answers.
abbrev pub invariant-loop-i : goal.invariant-loop-i
invariant-loop-i l =
    (l.right_row ≡ row_over l.support (cone_of l.fn.right).support l.i)
    × Filling (gate_truth l.support (cone_of l.fn.left) (cone_of l.fn.right) l.gate) l.initial.truth l.truth l.i
