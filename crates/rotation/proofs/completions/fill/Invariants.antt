use Rattle.laws.specs.Front.{Filling}
use Rattle.rules.specs.Builder.{filled}
use Rattle.rotation.specs.Entries.{numbers}
use Rattle.rotation.proofs.completions.fill.Given as goal

-- `rotation::completions::fill` meets its contract. The entries before the index are filled.
abbrev pub invariant-loop-i : goal.invariant-loop-i
invariant-loop-i l = Filling (filled l.missing (numbers l.known)) l.initial.table l.table l.i
