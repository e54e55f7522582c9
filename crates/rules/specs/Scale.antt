-- Scale arithmetic (document 01, "Scale pairs"): the signed divisor of a row of coefficients, and the pairs that
-- are tried.
use Rattle.std.specs.Prelude.{Bool, true, false, ◌&&◌, ◌||◌, List, [], ◌∷◌, map, ℕ, zero, suc, max, eqb, ℤ, pos, negsuc, neg_ℤ, nat_abs}
use Rattle.std.specs.Int.Signed.{lt_z, quot_z}
use Rattle.laws.specs.Gcd.{gcd}
use Rattle.laws.specs.Test.{if◌then◌otherwise◌}

-- The gcd of g and all of the coefficients.
unfoldable pub gcd_from : ℕ → List ℤ → ℕ
gcd_from g [] = g
gcd_from g (c ∷ cs) = gcd_from (gcd g (nat_abs c)) cs

-- Whether the first one not 0 is below 0.
unfoldable pub starts_negative : List ℤ → Bool
starts_negative [] = false
starts_negative (pos zero ∷ cs) = starts_negative cs
starts_negative (pos (suc k) ∷ cs) = false
starts_negative (negsuc k ∷ cs) = true

-- coefficient_normalization_divisor: the gcd, at least 1, with the sign of the first one not 0.
unfoldable pub divisor : List ℤ → ℤ
divisor cs = let d = pos (max (gcd_from 0 cs) 1) in if starts_negative cs then neg_ℤ d otherwise d

-- Each value divided by d, toward 0.
unfoldable pub quotients : ℤ → List ℤ → List ℤ
quotients d = map (λ (x : ℤ). quot_z x d)

-- Coefficients divided by their gcd, signed so that the first one not 0 is positive.
unfoldable pub normalised : List ℤ → List ℤ
normalised cs = quotients (divisor cs) cs

-- is_candidate_scale_pair: gcd 1, and a > 0 or a = 0 with b > 0.
unfoldable pub is_scale_pair : ℤ → ℤ → Bool
is_scale_pair a b = (lt_z (pos 0) a || (eqb (nat_abs a) 0 && lt_z (pos 0) b)) && eqb (gcd (nat_abs a) (nat_abs b)) 1
