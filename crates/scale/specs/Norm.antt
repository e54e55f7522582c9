-- The norm, taken coefficient by coefficient.
use Rattle.std.specs.Prelude.{◌≡◌, List, [], ◌∷◌, ◌⊎◌, ℕ, ◌+◌, ◌*◌, ℤ, nat_abs, length, take}
use Rattle.std.proofs.Math.Path.{refl}
use Rattle.std.proofs.Common.{ap, ⊎_elim}
use Rattle.theorems.specs.Weights.{weighted_norm}

-- where the one or the other ends
pub norm_none : (cs : List ℤ) (ws : List ℕ) → (cs ≡ []) ⊎ (ws ≡ []) → weighted_norm ws cs ≡ 0
unfolding weighted_norm
norm_none cs [] e = refl
norm_none [] (w ∷ ws) e = refl
norm_none (c ∷ cs) (w ∷ ws) e = ⊎_elim (λ (f : c ∷ cs ≡ []). absurd cc) (λ (f : w ∷ ws ≡ []). absurd cc) e

-- weights behind the coefficients do not matter
pub norm-first : (ws : List ℕ) (cs : List ℤ) → weighted_norm (take (length cs) ws) cs ≡ weighted_norm ws cs
unfolding weighted_norm
norm-first [] [] = refl
norm-first [] (c ∷ cs) = refl
norm-first (w ∷ ws) [] = refl
norm-first (w ∷ ws) (c ∷ cs) = ap (λ n. (nat_abs c * nat_abs c) * w + n) (norm-first ws cs)
