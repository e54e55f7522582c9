use Rattle.laws.specs.Front.{Filling}
use Rattle.linear.specs.Table.{shifted}
use Rattle.linear.proofs.shift.Given as goal

-- `linear::shift` meets its contract. The values before the index are shifted.
abbrev pub invariant-loop-v : goal.invariant-loop-v
invariant-loop-v l = Filling (shifted l.c l.initial.v-items) l.initial.v-items l.v-items l.v-index
