-- The values of a linear form: how long its table is and where it stands, how large its values are, and one coefficient more.
use Rattle.std.specs.Prelude.{◌≡◌, refl, List, [], ◌∷◌, ◌++◌, map, ℕ, zero, suc, ◌+◌, ◌*◌, ◌^◌, ◌≤◌, ℤ, pos, nat_abs, ◌+ℤ◌, length, get_or, take}
use Rattle.std.proofs.Common.{sym, ap, ◌∙◌, zero-le, arith, pow_pos, pow_mono}
use Rattle.std.proofs.lemmas.List.{length-map}
use Rattle.std.proofs.Math.ListN.{get_or-append}
use Rattle.laws.specs.Integer.{abs_add}
use Rattle.laws.specs.Over.{over, take-over}
use Rattle.rules.specs.Cone.{linear_table}
use Rattle.scale.specs.Limits.{Within}
use Rattle.theorems.specs.ConeValues.{linear_table-length}

-- c added to each value
unfoldable pub shifted : ℤ → List ℤ → List ℤ
shifted c = map (λ (v : ℤ). c +ℤ v)

pub shifted-length : (c : ℤ) (l : List ℤ) → length (shifted c l) ≡ length l
unfolding shifted
shifted-length c l = length-map l _

pub table_cons : (c : ℤ) (cs : List ℤ) → linear_table (c ∷ cs) ≡ linear_table cs ++ shifted c (linear_table cs)
unfolding linear_table shifted
table_cons c cs = refl

-- at most 11 sources have at most 2,048 assignments
pub few_rows : (n : ℕ) → n ≤ 11 → 2 ^ n ≤ 2048
few_rows n h = pow_mono {j = 11} h

-- the values that stand first in a table
pub values_first : (cs vs d : List ℤ) (rows : ℕ) → rows ≡ 2 ^ length cs → vs ≡ over (linear_table cs) d → take rows vs ≡ linear_table cs
values_first cs vs d rows count e = ap (take rows) e ∙ take-over (linear_table cs) d rows (linear_table-length cs ∙ sym count)

-- the first assignment is all zeros
pub table_first : (cs : List ℤ) → get_or (linear_table cs) 0 (pos 0) ≡ pos 0
unfolding linear_table
table_first [] = refl
table_first (c ∷ cs) =
    get_or-append (linear_table cs) (map (λ v. c +ℤ v) (linear_table cs)) (pos 0) 0 (rw linear_table-length (pow_pos (length cs))) ∙ table_first cs

pub within_append : (k : ℕ) (s t : List ℤ) → Within k s → Within k t → Within k (s ++ t)
within_append k [] t h g i = g i
within_append k (x ∷ s) t h g zero = h 0
within_append k (x ∷ s) t h g (suc i) = within_append k s t (λ j. h (suc j)) g i

pub within_shifted : (k m : ℕ) (c : ℤ) (l : List ℤ) → nat_abs c ≤ m → Within k l → Within (k + m) (shifted c l)
unfolding shifted
within_shifted k m c [] h g i = zero-le
within_shifted k m c (x ∷ l) h g zero = omega (arith, abs_add c x, g 0)
within_shifted k m c (x ∷ l) h g (suc i) = within_shifted k m c l h (λ j. g (suc j)) i

pub within_more : (k m : ℕ) (l : List ℤ) → k ≤ m → Within k l → Within m l
within_more k m l h g i = omega (arith, g i)

pub table_within : (m : ℕ) (cs : List ℤ) → Within m cs → Within (m * length cs) (linear_table cs)
unfolding linear_table shifted
table_within m [] h = one
  where
    one : Within (m * 0) (pos 0 ∷ [])
    one zero = zero-le
    one (suc i) = zero-le
table_within m (c ∷ cs) h =
    let ih = table_within m cs (λ j. h (suc j)) in
    within_append (m * suc (length cs)) (linear_table cs) (shifted c (linear_table cs))
    (within_more (m * length cs) (m * suc (length cs)) (linear_table cs) (omega arith) ih)
    (within_more (m * length cs + m) (m * suc (length cs)) (shifted c (linear_table cs)) (omega arith)
    (within_shifted (m * length cs) m c (linear_table cs) (h 0) ih))
