use Rattle.laws.specs.Digits.{digits}
use Rattle.laws.specs.Front.{Filling}
use Rattle.sum_reading.proofs.search.bits_of.Given as goal

-- the first k places hold the first k digits
abbrev pub invariant-loop-k : goal.invariant-loop-k
invariant-loop-k l = Filling (digits l.n l.row) l.initial.bit-items l.bit-items l.k
