-- What validate_cone answers, and what a cone's known entries say of its table.
use Rattle.std.specs.Prelude.{Result, Ok, Err, ⊤}
use Rattle.rules.specs.declared.Reason.{Reason}
use Rattle.rules.specs.Refusal.{reason_number}
use Rattle.rules.specs.Cone as rules

-- The cone itself, or document 01's number.
unfoldable pub validity_of : rules.Cone → Result ⊤ Reason → rules.Result rules.Cone
validity_of c (Ok t) = rules.ok c
validity_of c (Err r) = rules.err (reason_number r)
