use Rattle.std.proofs.Common.{◌≡◌, ◌≤◌, length}
use Rattle.vectors.specs.Token.{digits}
use Rattle.vectors.proofs.number.Given as goal

-- What the digits that are left make of the value so far is what all of them make of 0.
abbrev pub invariant-loop-rest : goal.invariant-loop-rest
invariant-loop-rest l = record { read : digits l.value l.rest ≡ digits 0 l.text; shorter : length l.rest ≤ length l.text }

abbrev pub decreases-loop-rest : goal.decreases-loop-rest
decreases-loop-rest l = length l.rest
