use Rattle.std.proofs.Common.{◌≡◌, map, ◌++◌, take, drop}
use Rattle.vectors_builder.specs.Shown.{shown_byte}
use Rattle.vectors_builder.proofs.as_digits.Given as goal

-- The bytes so far are shown ones.
abbrev pub invariant-loop-b : goal.invariant-loop-b
invariant-loop-b l = l.b-items ≡ map shown_byte (take l.b-index l.initial.b-items) ++ drop l.b-index l.initial.b-items
