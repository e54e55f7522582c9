use Rattle.std.proofs.Common.{◌≡◌, ap₂, ◌∙◌, ◌≤◌, ◌<◌, ◌^◌, arith, ℤ, pos, nat_abs, ◌+ℤ◌, ◌*ℤ◌, w64, to_z, of_z, SFits, to_z-of_z}
use Rattle.laws.specs.Integer.{fits_abs, abs_add, abs_mul_le, read_back}
use Rattle.merged_rows.specs.EnergyMoments.{by_moments}
use Rattle.search.proofs.energy_sum.Goals as goal

-- three terms added, each read back from its bits
module _ (x y z : ℤ) (h : nat_abs x ≤ 2 ^ 51) (k : nat_abs y ≤ 2 ^ 51) (l : nat_abs z ≤ 2 ^ 51) where
  back : (v : ℤ) → nat_abs v ≤ 2 ^ 51 → to_z w64 (of_z w64 v) ≡ v
  back v m = to_z-of_z {w = w64} (fits_abs v (omega (arith, m)))

  fit : SFits w64 (x +ℤ y)
  fit = fits_abs (x +ℤ y) (omega (arith, abs_add x y))

  all_fit : SFits w64 ((x +ℤ y) +ℤ z)
  all_fit = fits_abs ((x +ℤ y) +ℤ z) (omega (arith, abs_add x y, abs_add (x +ℤ y) z))

  two_fit : SFits w64 (to_z w64 (of_z w64 x) +ℤ to_z w64 (of_z w64 y))
  two_fit = rw (back x h, back y k) fit

  two_read : to_z w64 (of_z w64 (to_z w64 (of_z w64 x) +ℤ to_z w64 (of_z w64 y))) ≡ x +ℤ y
  two_read = rw (back x h, back y k) (to_z-of_z {w = w64} fit)

  three_fit : SFits w64 (to_z w64 (of_z w64 (to_z w64 (of_z w64 x) +ℤ to_z w64 (of_z w64 y))) +ℤ to_z w64 (of_z w64 z))
  three_fit = rw (two_read, back z l) all_fit

  three_read : to_z w64 (of_z w64 (to_z w64 (of_z w64 (to_z w64 (of_z w64 x) +ℤ to_z w64 (of_z w64 y))) +ℤ to_z w64 (of_z w64 z))) ≡ (x +ℤ y) +ℤ z
  three_read = rw (two_read, back z l) (to_z-of_z {w = w64} all_fit)

  small : nat_abs ((x +ℤ y) +ℤ z) < 2 ^ 63
  small = omega (arith, abs_add x y, abs_add (x +ℤ y) z)

-- `search::energy_sum` meets its contract.
pub overflow_add-result : goal.overflow_add-result
overflow_add-result c = two_fit c.weighted.result c.weighted-2.result c.weighted.result c.weighted.ensures.small c.weighted-2.ensures.small c.weighted.ensures.small

pub overflow_add-result-2 : goal.overflow_add-result-2
overflow_add-result-2 c = three_fit c.weighted.result c.weighted-2.result c.weighted-3.result c.weighted.ensures.small c.weighted-2.ensures.small c.weighted-3.ensures.small

pub returns : goal.returns
unfolding by_moments
returns c =
    let u = c.weighted in
    let v = c.weighted-2 in
    let w = c.weighted-3 in
    let r = c.requires in
    let a = to_z-of_z c.ranges.a in
    let b = to_z-of_z c.ranges.b in
    let twice : to_z w64 (of_z w64 (pos 2 *ℤ to_z w64 (of_z w64 c.args.a))) ≡ pos 2 *ℤ c.args.a =
    rw a (to_z-of_z {w = w64} (fits_abs (pos 2 *ℤ c.args.a) (omega (arith, abs_mul_le (pos 2) c.args.a {a = 2} (omega arith) r.1.first)))) in
    let first : u.result ≡ (c.args.a *ℤ c.args.a) *ℤ c.args.moments.xx = u.ensures.is ∙ rw (a, read_back c.args.moments.xx (omega (arith, r.0.xx))) in
    let second : v.result ≡ ((pos 2 *ℤ c.args.a) *ℤ c.args.b) *ℤ c.args.moments.xy = v.ensures.is ∙ rw (twice, b, read_back c.args.moments.xy (omega (arith, r.0.xy))) in
    let third : w.result ≡ (c.args.b *ℤ c.args.b) *ℤ c.args.moments.yy = w.ensures.is ∙ rw (b, read_back c.args.moments.yy (omega (arith, r.0.yy))) in
    let is = three_read u.result v.result w.result u.ensures.small v.ensures.small w.ensures.small in
    record {
      is = is ∙ ap₂ (λ x y. x +ℤ y) (ap₂ (λ x y. x +ℤ y) first second) third;
      small = rw is (small u.result v.result w.result u.ensures.small v.ensures.small w.ensures.small);
    }
