use Rattle.laws.specs.Front.{Filling}
use Rattle.rules.specs.Scale.{quotients}
use Rattle.scale.proofs.divide_all.Given as goal

-- `scale::divide_all` meets its contract. The values before the index are divided, and the others are as they were.
abbrev pub invariant-loop-v : goal.invariant-loop-v
invariant-loop-v l = Filling (quotients l.d l.initial.v-items) l.initial.v-items l.v-items l.v-index
