-- The limits of a linear form's table by its coefficients, and the loops that add them.
use Rattle.std.specs.Prelude.{◌≡◌, List, [], ◌∷◌, ℕ, zero, suc, ◌+◌, ◌*◌, ◌≤◌, ◌<◌, ℤ, pos, nat_abs, length, get_or, drop}
use Rattle.std.proofs.Common.{zero-le, add-one, arith, drop_of_length-le, drop-cons}
use Rattle.laws.specs.Integer.{minus, abs_neg}
use Rattle.rules.specs.Cone.{linear_table}
use Rattle.rules.specs.Span.{least, span}
use Rattle.scale.specs.Limits.{Within}
use Rattle.theorems.specs.LinearTables.{least_table, lower, span_table, total, total_parts}
use Rattle.linear.specs.Table.{shifted, within_append, within_shifted, within_more}

-- no coefficient and no value is larger
pub within_total : (cs : List ℤ) → Within (total cs) cs
unfolding total
within_total [] i = zero-le
within_total (c ∷ cs) zero = omega arith
within_total (c ∷ cs) (suc i) = omega (arith, within_total cs i)

-- a small span has small coefficients, and a small least value
module _ (cs : List ℤ) (narrow : span (linear_table cs) ≤ 32) where
  pub narrow_small : Within 1984 cs
  narrow_small i = omega (arith, within_total cs i, span_table cs)

  pub narrow_low : nat_abs (least (linear_table cs)) ≤ 31
  narrow_low = rw (least_table cs, abs_neg (pos (lower cs))) (omega (arith, total_parts cs, span_table cs))

pub table_within_total : (cs : List ℤ) → Within (total cs) (linear_table cs)
unfolding total linear_table shifted
table_within_total [] = one
  where
    one : Within 0 (pos 0 ∷ [])
    one zero = zero-le
    one (suc i) = zero-le
table_within_total (c ∷ cs) =
    let ih = table_within_total cs in
    within_append (nat_abs c + total cs) (linear_table cs) (shifted c (linear_table cs))
    (within_more (total cs) (nat_abs c + total cs) (linear_table cs) (omega arith) ih)
    (within_more (total cs + nat_abs c) (nat_abs c + total cs) (shifted c (linear_table cs)) (omega arith)
    (within_shifted (total cs) (nat_abs c) c (linear_table cs) (omega arith) ih))

-- a turn of the loop that adds them, and its end
module _ (cs : List ℤ) (i : ℕ) where
  pub total_on : i < length cs → total (drop i cs) ≡ nat_abs (get_or cs i (pos 0)) + total (drop (i + 1) cs)
  unfolding total
  total_on h = rw (drop-cons cs i (pos 0) h, add-one)

  pub total_end : length cs ≤ i → total (drop i cs) ≡ 0
  unfolding total
  total_end h = rw (drop_of_length-le cs {i = i} h)

pub total-small : (k : ℕ) (cs : List ℤ) → Within k cs → total cs ≤ length cs * k
unfolding total
total-small k [] w = omega arith
total-small k (c ∷ cs) w = omega (arith, total-small k cs (λ i. w (suc i)), w 0)

-- the same for the negative ones
module _ (cs : List ℤ) (i : ℕ) where
  pub lower_on : i < length cs → lower (drop i cs) ≡ minus (get_or cs i (pos 0)) + lower (drop (i + 1) cs)
  unfolding lower
  lower_on h = rw (drop-cons cs i (pos 0) h, add-one)

  pub lower_end : length cs ≤ i → lower (drop i cs) ≡ 0
  unfolding lower
  lower_end h = rw (drop_of_length-le cs {i = i} h)

pub lower-small : (k : ℕ) (cs : List ℤ) → Within k cs → lower cs ≤ length cs * k
lower-small k cs w = omega (arith, total-small k cs w, total_parts cs)
