use Rattle.std.proofs.Common.{◌≡◌, min, take}
use Rattle.rules.specs.Form.{value_from}
use Rattle.text.proofs.value_of.Given as goal

abbrev pub invariant-loop-b : goal.invariant-loop-b
invariant-loop-b l = l.v ≡ min 65536 (value_from 0 (take l.b-index l.digits))
