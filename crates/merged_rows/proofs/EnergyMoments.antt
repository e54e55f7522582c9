-- The energy of merged coefficients by the moments of all rows.
use Rattle.std.specs.Prelude.{◌≡◌, refl, ℕ, ◌+◌, ◌*◌, ◌<◌, ℤ, pos, negsuc, nat_abs, ◌+ℤ◌, ◌*ℤ◌, drop}
use Rattle.std.proofs.Math.Path.{sym, ap, ap₂}
use Rattle.std.proofs.Common.{◌∙◌, mul-le-mul, arith}
use mathlib.Core.List.{List, [], ◌∷◌, zip_with}
use Rattle.std.proofs.Math.IntN.{zero-*ℤ}
use Rattle.std.proofs.Math.ListN.{length, get_or}
use Rattle.std.specs.Int.Signed.{quot_z}
use Rattle.laws.specs.Integer.{ints, plus, minus, add_parts, plus_mul, minus_mul, abs_mul, eq_of}
use Rattle.rules.specs.Scale.{divisor, normalised}
use Rattle.rules.specs.Cone.{linear_table, energy}
use Rattle.scale.specs.Divisor.{divisor_not_zero}
use Rattle.theorems.specs.ConeValues.{linear_table-length}
use Rattle.merged_rows.specs.MergedIntegers.{mul-add, add-mul, quot_of}
use Rattle.merged_rows.specs.MergedValues.{combined, times, table_combined, table_times-divisor}
use Rattle.merged_rows.specs.EnergyMoments.{xx_of, xy_of, yy_of, by_moments}
use Rattle.merged_rows.specs.RowsCompacted.{sum_over}

-- ---- One row.

squares : (a x : ℤ) → (a *ℤ x) *ℤ (a *ℤ x) ≡ (a *ℤ a) *ℤ (x *ℤ x)
squares a x = eq_of (simp (plus_mul, minus_mul) (omega arith))

twice : (a b z : ℤ) → ((pos 2 *ℤ a) *ℤ b) *ℤ z ≡ ((a *ℤ b) *ℤ z) +ℤ ((a *ℤ b) *ℤ z)
unfolding plus minus
twice a b z =
    let p : plus (((pos 2 *ℤ a) *ℤ b) *ℤ z) ≡ 2 * plus ((a *ℤ b) *ℤ z) = simp (plus_mul, minus_mul) (omega arith) in
    let m : minus (((pos 2 *ℤ a) *ℤ b) *ℤ z) ≡ 2 * minus ((a *ℤ b) *ℤ z) = simp (plus_mul, minus_mul) (omega arith) in
    omega (arith, ints, add_parts ((a *ℤ b) *ℤ z) ((a *ℤ b) *ℤ z))

cross : (a b x y : ℤ) → (a *ℤ x) *ℤ (b *ℤ y) ≡ (a *ℤ b) *ℤ (x *ℤ y)
cross a b x y = eq_of (simp (plus_mul, minus_mul) (omega arith))

cross_back : (a b x y : ℤ) → (b *ℤ y) *ℤ (a *ℤ x) ≡ (a *ℤ b) *ℤ (x *ℤ y)
cross_back a b x y = eq_of (simp (plus_mul, minus_mul) (omega arith))

square_combined : (a b x y : ℤ) → combined a b x y *ℤ combined a b x y ≡ by_moments a b (xx_of x y) (xy_of x y) (yy_of x y)
unfolding combined by_moments xx_of xy_of yy_of
square_combined a b x y =
    let u = a *ℤ x in
    let v = b *ℤ y in
    let w = (a *ℤ b) *ℤ (x *ℤ y) in
    rw (add-mul (u +ℤ v) u v, mul-add u u v, mul-add v u v, squares a x, squares b y, cross a b x y, cross_back a b x y)
    (omega
    (arith, ints, twice a b (x *ℤ y), add_parts (((a *ℤ a) *ℤ (x *ℤ x)) +ℤ w) (w +ℤ ((b *ℤ b) *ℤ (y *ℤ y))), add_parts ((a *ℤ a) *ℤ (x *ℤ x)) w, add_parts w ((b *ℤ b) *ℤ (y *ℤ y)), add_parts (((a *ℤ a) *ℤ (x *ℤ x)) +ℤ (((pos 2 *ℤ a) *ℤ b) *ℤ (x *ℤ y))) ((b *ℤ b) *ℤ (y *ℤ y)), add_parts ((a *ℤ a) *ℤ (x *ℤ x)) (((pos 2 *ℤ a) *ℤ b) *ℤ (x *ℤ y)), add_parts w w))

row_energy : (q d a b x y : ℤ) → q *ℤ d ≡ combined a b x y → (q *ℤ q) *ℤ (d *ℤ d) ≡ by_moments a b (xx_of x y) (xy_of x y) (yy_of x y)
row_energy q d a b x y e = sym (squares q d) ∙ ap (λ z. z *ℤ z) e ∙ square_combined a b x y

-- ---- All rows.

moments_add : (a b xx xy yy xx' xy' yy' : ℤ)
    → by_moments a b (xx +ℤ xx') (xy +ℤ xy') (yy +ℤ yy') ≡ by_moments a b xx xy yy +ℤ by_moments a b xx' xy' yy'
unfolding by_moments
moments_add a b xx xy yy xx' xy' yy' =
    rw (mul-add (a *ℤ a) xx xx', mul-add ((pos 2 *ℤ a) *ℤ b) xy xy', mul-add (b *ℤ b) yy yy')
    (by ((a *ℤ a) *ℤ xx) ((a *ℤ a) *ℤ xx') (((pos 2 *ℤ a) *ℤ b) *ℤ xy) (((pos 2 *ℤ a) *ℤ b) *ℤ xy') ((b *ℤ b) *ℤ yy) ((b *ℤ b) *ℤ yy'))
  where
    by : (p p' q q' r r' : ℤ) → ((p +ℤ p') +ℤ (q +ℤ q')) +ℤ (r +ℤ r') ≡ ((p +ℤ q) +ℤ r) +ℤ ((p' +ℤ q') +ℤ r')
    by p p' q q' r r' =
        omega
        (arith, ints, add_parts ((p +ℤ p') +ℤ (q +ℤ q')) (r +ℤ r'), add_parts (p +ℤ p') (q +ℤ q'), add_parts p p', add_parts q q', add_parts r r', add_parts ((p +ℤ q) +ℤ r) ((p' +ℤ q') +ℤ r'), add_parts (p +ℤ q) r, add_parts p q, add_parts (p' +ℤ q') r', add_parts p' q')

moments_none : (a b : ℤ) → by_moments a b (pos 0) (pos 0) (pos 0) ≡ pos 0
unfolding by_moments plus minus
moments_none a b =
    omega
    (arith, ints, add_parts (((a *ℤ a) *ℤ pos 0) +ℤ (((pos 2 *ℤ a) *ℤ b) *ℤ pos 0)) ((b *ℤ b) *ℤ pos 0), add_parts ((a *ℤ a) *ℤ pos 0) (((pos 2 *ℤ a) *ℤ b) *ℤ pos 0), plus_mul (a *ℤ a) (pos 0), minus_mul (a *ℤ a) (pos 0), plus_mul ((pos 2 *ℤ a) *ℤ b) (pos 0), minus_mul ((pos 2 *ℤ a) *ℤ b) (pos 0), plus_mul (b *ℤ b) (pos 0), minus_mul (b *ℤ b) (pos 0))

square_abs : (q : ℤ) → pos (nat_abs q * nat_abs q) ≡ q *ℤ q
square_abs (pos n) = refl
square_abs (negsuc n) = refl

energy_add : (q : ℤ) (n : ℕ) → pos (nat_abs q * nat_abs q + n) ≡ (q *ℤ q) +ℤ pos n
energy_add q n = ap (λ z. z +ℤ pos n) (square_abs q)

-- where each value times d is a·x + b·y
module _ (a b d : ℤ) where
  pub energy-times : (qs xs ys : List ℤ) → length ys ≡ length xs → times d qs ≡ zip_with (combined a b) xs ys
      → pos (energy qs) *ℤ (d *ℤ d) ≡ by_moments a b (sum_over xx_of xs ys) (sum_over xy_of xs ys) (sum_over yy_of xs ys)
  unfolding energy sum_over times zip_with
  energy-times [] [] [] e h = zero-*ℤ (d *ℤ d) ∙ sym (moments_none a b)
  energy-times [] [] (y ∷ ys) e h = absurd (omega arith)
  energy-times [] (x ∷ xs) [] e h = absurd (omega arith)
  energy-times [] (x ∷ xs) (y ∷ ys) e h = absurd (omega (arith, ap length h))
  energy-times (q ∷ qs) [] [] e h = absurd (omega (arith, ap length h))
  energy-times (q ∷ qs) [] (y ∷ ys) e h = absurd (omega arith)
  energy-times (q ∷ qs) (x ∷ xs) [] e h = absurd (omega arith)
  energy-times (q ∷ qs) (x ∷ xs) (y ∷ ys) e h =
      ap (λ z. z *ℤ (d *ℤ d)) (energy_add q (energy qs))
      ∙ add-mul (d *ℤ d) (q *ℤ q) (pos (energy qs))
      ∙ ap₂ (λ u v. u +ℤ v) (row_energy q d a b x y (ap (λ l. get_or l 0 (pos 0)) h)) (energy-times qs xs ys (omega arith) (ap (drop 1) h))
      ∙ sym (moments_add a b (xx_of x y) (xy_of x y) (yy_of x y) (sum_over xx_of xs ys) (sum_over xy_of xs ys) (sum_over yy_of xs ys))

  pub energy_of_quotients : (qs xs ys : List ℤ) → 0 < nat_abs d → length ys ≡ length xs → times d qs ≡ zip_with (combined a b) xs ys
      → pos (energy qs) ≡ quot_z (by_moments a b (sum_over xx_of xs ys) (sum_over xy_of xs ys) (sum_over yy_of xs ys)) (d *ℤ d)
  energy_of_quotients qs xs ys k e h =
      sym
      (quot_of (pos (energy qs)) (d *ℤ d) (by_moments a b (sum_over xx_of xs ys) (sum_over xy_of xs ys) (sum_over yy_of xs ys))
      (rw (abs_mul d d) (mul-le-mul k k)) (energy-times qs xs ys e h))

-- The energy of merged coefficients, by the moments of all rows of both tables.
pub energy_by_moments : (a b : ℤ) (l r : List ℤ) → length r ≡ length l
    → pos (energy (linear_table (normalised (zip_with (combined a b) l r))))
    ≡ quot_z (by_moments a b (sum_over xx_of (linear_table l) (linear_table r)) (sum_over xy_of (linear_table l) (linear_table r)) (sum_over yy_of (linear_table l) (linear_table r)))
    (divisor (zip_with (combined a b) l r) *ℤ divisor (zip_with (combined a b) l r))
energy_by_moments a b l r e =
    let cs = zip_with (combined a b) l r in
    energy_of_quotients a b (divisor cs) (linear_table (normalised cs)) (linear_table l) (linear_table r) (divisor_not_zero cs)
    (rw (linear_table-length r, linear_table-length l, e)) (table_times-divisor cs ∙ table_combined a b l r e)
