use Rattle.std.proofs.Common.{◌≡◌, refl, ap, ◌∙◌, List, ℕ, zero, suc, ◌+◌, ◌≤◌, lt-ltb, add-zero, arith, ℤ, pos, negsuc, neg_ℤ, ◌+ℤ◌, get_or, w64, to_z, of_z, SFits, to_z-of_z}
use Rattle.std.specs.Int.{int_min}
use Rattle.laws.specs.Integer.{plus, minus, abs_parts, add_parts, one_part_zero, fits_abs, ints, plus_neg, minus_neg, read_back}
use Rattle.linear.specs.Span.{lower_on, lower_end, lower-small}
use Rattle.theorems.specs.LinearTables.{least_table, lower}
use Rattle.linear.proofs.linear_least.Goals as goal
use Rattle.linear.proofs.linear_least.Goals.{After-min-sum}

-- the negative part of a coefficient
min_is : (c : ℤ) → (plus (int_min c (pos 0)) ≡ 0) × (minus (int_min c (pos 0)) ≡ minus c)
unfolding plus minus
min_is (pos zero) = (refl, refl)
min_is (pos (suc a)) = rw (lt-ltb 0 (suc a) (omega arith)) (refl, refl)
min_is (negsuc a) = (refl, refl)

-- one coefficient more: m is what it adds
module _ (s c m : ℤ) (l l' t : ℕ) (below : plus s ≡ 0) (sum : minus s + l ≡ t) (on : l ≡ minus c + l') (is : m ≡ int_min c (pos 0)) where
  added : (plus (s +ℤ m) ≡ 0) × (minus (s +ℤ m) + l' ≡ t)
  added =
      let p : plus m ≡ 0 = ap plus is ∙ (min_is c).0 in
      let n : minus m ≡ minus c = ap minus is ∙ (min_is c).1 in
      (omega (arith, add_parts s m, one_part_zero (s +ℤ m)), omega (arith, add_parts s m, one_part_zero (s +ℤ m)))

  fits : t ≤ 21824 → SFits w64 (s +ℤ m)
  fits h = fits_abs _ (omega (arith, abs_parts (s +ℤ m), added))

none_yet : (l : ℕ) → (plus (pos 0) ≡ 0) × (minus (pos 0) + l ≡ l)
unfolding plus minus
none_yet l = (omega arith, omega arith)

whole : (s z : ℤ) (t : ℕ) → plus s ≡ 0 → minus s ≡ t → z ≡ neg_ℤ (pos t) → s ≡ z
unfolding plus minus
whole s z t p m e = omega (arith, ints, plus_neg (pos t), minus_neg (pos t))

-- what the coefficient that is read adds
module _ (c : After-min-sum) where
  abbrev cs : List ℤ
  cs = c.args.coefs.now

  abbrev i : ℕ
  i = c.loop-c.c-index

  small : lower cs ≤ 21824
  small = omega (arith, c.requires.0, lower-small 1984 cs c.requires.1)

  adds : to_z w64 (of_z w64 c.min-sum.result) ≡ int_min (get_or cs i (pos 0)) (pos 0)
  adds =
      let back = to_z-of_z {w = w64} (fits_abs (get_or cs i (pos 0)) (omega (arith, c.requires.1 i))) in
      read_back c.min-sum.result c.min-sum.type_inv ∙ (simp back at c.min-sum.ensures.value)

pub loop-c-init : goal.loop-c-init
loop-c-init c = let n = none_yet (lower c.args.coefs.now) in record { not_positive = n.0; negative_parts = n.1 }

pub overflow_add-sum : goal.overflow_add-sum
overflow_add-sum c =
    let o = c.loop-c in
    fits _ _ _ _ _ _ o.invariant.not_positive o.invariant.negative_parts (lower_on c.args.coefs.now o.c-index (omega arith)) (adds c) (small c)

pub loop-c-preserved : goal.loop-c-preserved
loop-c-preserved c =
    let o = c.loop-c in
    let on = lower_on c.args.coefs.now o.c-index (omega arith) in
    let n = added _ _ _ _ _ _ o.invariant.not_positive o.invariant.negative_parts on (adds c) in
    rw (to_z-of_z (fits _ _ _ _ _ _ o.invariant.not_positive o.invariant.negative_parts on (adds c) (small c))) (record { not_positive = n.0; negative_parts = n.1 })

pub returns : goal.returns
returns c =
    let o = c.loop-c in
    whole _ _ _ o.invariant.not_positive (simp (lower_end c.args.coefs.now o.c-index (omega arith), add-zero) at o.invariant.negative_parts) (least_table c.args.coefs.now)
