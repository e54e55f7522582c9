-- A number has only one way to be written (crates/theorems/specs/OneDecimal.antt), so numbers of any length are compared by their digits.
use Rattle.std.specs.Prelude.{◌≡◌, refl, Bool, true, false, List, [], ◌∷◌, ℕ, length, drop}
use Rattle.std.proofs.Common.{subst}
use Rattle.std.proofs.Math.Option.{none, some, some-injective, none-ne-some}
use Rattle.laws.specs.Test.{if◌then◌otherwise◌}
use Rattle.rules.specs.Form.{give, run, run_of, is_number, is_digit}
use Rattle.theorems.specs.Decimals.{AllOf}

-- Digits without a leading zero.
pub record Decimal (w : List ℕ) : Type 0 where
  pub digits : AllOf is_digit w
  pub good : is_number w ≡ true

-- ---- What was read is such.

run-digits : (l : List ℕ) → AllOf is_digit (run is_digit l)
unfolding AllOf run
run-digits [] = tt
run-digits (b ∷ s) = by (is_digit b) refl (run-digits s)
  where
    by : (t : Bool) → is_digit b ≡ t → AllOf is_digit (run is_digit s) → AllOf is_digit (if t then b ∷ run is_digit s otherwise [])
    by true e d = (e, d)
    by false e d = tt

pub digits_decimal : (l w x : List ℕ) → run_of is_digit is_number l ≡ some (record { value = w; rest = x }) → Decimal w
unfolding run_of
digits_decimal l w x e = by (run is_digit l) (is_number (run is_digit l)) refl (run-digits l) e
  where
    by : (u : List ℕ) (t : Bool) → is_number u ≡ t → AllOf is_digit u → (if t then give u (drop (length u) l) otherwise none) ≡ some (record { value = w; rest = x }) → Decimal w
    by u true g d q = subst (λ p. Decimal p.value) (some-injective _ _ q) (record { digits = d; good = g })
    by u false g d q = absurd (none-ne-some _ q)
