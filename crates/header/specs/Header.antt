-- The bytes of a gate's function.
use Rattle.std.specs.Prelude.{◌≡◌, refl, List, ◌∷◌, ◌++◌, ℕ, length}
use mathlib.Core.List.{flat_map}
use Rattle.std.proofs.Common.{append-nil}
use Rattle.rules.specs.declared.Wire.{Wire}
use Rattle.circuit.specs.declared.Function.{Function}
use Rattle.circuit.specs.declared.Function.TheVariants.{Unary, Binary}
use Rattle.circuit.specs.View.{wires_of, answers_of}
use Rattle.retuning.specs.Kept.{wire_bytes}

unfoldable pub function_bytes : Function → List ℕ
function_bytes f = length (wires_of f) ∷ (flat_map wire_bytes (wires_of f) ++ answers_of f)

-- ---- laws

pub unary_bytes : {f : Function} {w : Wire} {answers : List ℕ} → f ≡ Unary w answers → function_bytes f ≡ 1 ∷ (wire_bytes w ++ answers)
unfolding function_bytes flat_map
unary_bytes {f} {w} {answers} e = rw (e, append-nil (wire_bytes w)) refl

pub binary_bytes : {f : Function} {u v : Wire} {answers : List ℕ} → f ≡ Binary u v answers → function_bytes f ≡ 2 ∷ (wire_bytes u ++ wire_bytes v ++ answers)
unfolding function_bytes flat_map
binary_bytes {f} {u} {v} {answers} e = rw (e, append-nil (wire_bytes v)) refl
