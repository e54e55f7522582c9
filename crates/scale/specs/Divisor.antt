-- The divisor divides every coefficient, so division by it is exact; and it is never 0.
use Rattle.std.specs.Prelude.{◌≡◌, refl, Bool, false, not, Option, Some, None, int_lt, List, [], ◌∷◌, ℕ, zero, suc, ◌+◌, ◌≤◌, ◌<◌, ℤ, pos, negsuc, nat_abs, ◌*ℤ◌, length, get_or, drop}
use Rattle.std.specs.Int.{◌∣◌}
use Rattle.std.specs.List.{find}
use Rattle.std.specs.Ordering.{int_eq}
use Rattle.std.proofs.Math.Nat.{eq-one_of_dvd-one}
use Rattle.std.proofs.Common.{add-one, lt-ltb, le-ltb, arith, drop_of_length-le, drop-cons}
use Rattle.laws.specs.Gcd.{gcd}
use Rattle.laws.specs.Integer.{ints, plus, minus, plus_mul, minus_mul, quot_exact}
use Rattle.rules.specs.Scale.{gcd_from, starts_negative, divisor, quotients, normalised}
use Rattle.theorems.specs.Normalised.{divides_start, divisor_abs, divisor_divides}

-- a turn of the loop that takes the gcd, and its end
module _ (cs : List ℤ) (i : ℕ) where
  pub gcd_on : (g : ℕ) → i < length cs → gcd_from g (drop i cs) ≡ gcd_from (gcd g (nat_abs (get_or cs i (pos 0)))) (drop (i + 1) cs)
  unfolding gcd_from
  gcd_on g h = rw (drop-cons cs i (pos 0) h, add-one)

  pub gcd_end : (g : ℕ) → length cs ≤ i → gcd_from g (drop i cs) ≡ g
  unfolding gcd_from
  gcd_end g h = rw (drop_of_length-le cs {i = i} h)

pub gcd-one : (cs : List ℤ) → gcd_from 1 cs ≡ 1
gcd-one cs = eq-one_of_dvd-one (divides_start 1 cs)

pub divisor_not_zero : (cs : List ℤ) → 0 < nat_abs (divisor cs)
divisor_not_zero cs = omega (arith, divisor_abs cs)

-- a quotient by a common divisor, multiplied back, is the value that was divided, on both sides of 0
pub quotients_exact : (d : ℤ) (l : List ℤ) → 0 < nat_abs d → ((i : ℕ) → nat_abs d ∣ nat_abs (get_or l i (pos 0)))
    → (i : ℕ) → get_or (quotients d l) i (pos 0) *ℤ d ≡ get_or l i (pos 0)
unfolding quotients plus minus
quotients_exact d [] h k i = omega (arith, ints, plus_mul (pos 0) d, minus_mul (pos 0) d)
quotients_exact d (x ∷ l) h k zero = quot_exact x d h (k 0)
quotients_exact d (x ∷ l) h k (suc i) = quotients_exact d l h (λ j. k (suc j)) i

pub normalised_exact : (cs : List ℤ) (i : ℕ) → get_or (normalised cs) i (pos 0) *ℤ divisor cs ≡ get_or cs i (pos 0)
unfolding normalised
normalised_exact cs = quotients_exact (divisor cs) cs (divisor_not_zero cs) (divisor_divides cs)

-- the first coefficient that is not 0, and whether it is below 0
abbrev pub is_signed : ℤ → Bool
is_signed x = not (int_eq x (pos 0))

abbrev pub is_below_zero : Option ℤ → Bool
is_below_zero None = false
is_below_zero (Some c) = int_lt c (pos 0)

pub starts_negative_by : (cs : List ℤ) → starts_negative cs ≡ is_below_zero (find is_signed cs)
unfolding starts_negative
starts_negative_by [] = refl
starts_negative_by (pos zero ∷ cs) = starts_negative_by cs
starts_negative_by (pos (suc k) ∷ cs) = rw (le-ltb (suc k) 0 (omega arith), lt-ltb 0 (suc k) (omega arith), le-ltb (suc k) 0 (omega arith))
starts_negative_by (negsuc k ∷ cs) = refl
