use Rattle.laws.specs.Front.{Filling}
use Rattle.rules.specs.Builder.{opposed}
use Rattle.rotation.specs.Entries.{numbers}
use Rattle.rotation.proofs.completions.oppose.Given as goal

-- `rotation::completions::oppose` meets its contract. The entries before the index are opposite.
abbrev pub invariant-loop-i : goal.invariant-loop-i
invariant-loop-i l = Filling (opposed l.size (numbers l.known)) l.initial.table l.table l.i
