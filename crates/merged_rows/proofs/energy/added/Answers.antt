use Rattle.std.proofs.Common.{◌≡◌, refl, ◌*◌, ◌<◌, ◌≤◌, ◌^◌, mul-le-mul, arith, rules, pos, nat_abs, ◌+ℤ◌, ◌*ℤ◌, to_z-of_z, w64, SFits, to_z}
use mir.Facts.{sfits_widen}
use Rattle.laws.specs.Integer.{abs_add, abs_mul, fits_abs, read_back}
use Rattle.merged_rows.proofs.energy.added.Goals as goal
use Rattle.merged_rows.proofs.energy.added.Goals.{Start}

-- `merged_rows::energy::added` meets its contract.
module _ (c : Start) where
  wide_x : SFits w64 c.args.x
  wide_x = sfits_widen tt c.ranges.x

  wide_y : SFits w64 c.args.y
  wide_y = sfits_widen tt c.ranges.y

  few : c.args.count < 2 ^ 16
  few = search rules

  count_is : to_z w64 c.args.count ≡ pos c.args.count
  count_is = read_back (pos c.args.count) (omega (arith, few))

  product_small : nat_abs (c.args.x *ℤ c.args.y) ≤ 31 * 31
  product_small = rw abs_mul (mul-le-mul c.requires.1.0 c.requires.1.1)

  product : SFits w64 (c.args.x *ℤ c.args.y)
  product = fits_abs (c.args.x *ℤ c.args.y) (omega (arith, product_small))

  few_or_all : c.args.count ≤ 2 ^ 16
  few_or_all = omega (arith, few)

  all_small : nat_abs ((c.args.x *ℤ c.args.y) *ℤ pos c.args.count) ≤ (31 * 31) * 2 ^ 16
  all_small = rw (abs_mul (c.args.x *ℤ c.args.y) (pos c.args.count)) (mul-le-mul product_small few_or_all)

  all : SFits w64 ((c.args.x *ℤ c.args.y) *ℤ pos c.args.count)
  all = fits_abs ((c.args.x *ℤ c.args.y) *ℤ pos c.args.count) (omega (arith, all_small))

  sum : SFits w64 (c.args.sum +ℤ ((c.args.x *ℤ c.args.y) *ℤ pos c.args.count))
  sum =
      fits_abs (c.args.sum +ℤ ((c.args.x *ℤ c.args.y) *ℤ pos c.args.count))
      (omega (arith, all_small, abs_add c.args.sum ((c.args.x *ℤ c.args.y) *ℤ pos c.args.count), c.requires.0))

pub overflow_add-result : goal.overflow_add-result
overflow_add-result c =
    rw (to_z-of_z c.ranges.x, to_z-of_z c.ranges.y, to_z-of_z c.ranges.sum, to_z-of_z (wide_x c), to_z-of_z (wide_y c), to_z-of_z (product c), count_is c, to_z-of_z (all c))
    (sum c)

pub returns : goal.returns
returns c =
    rw (to_z-of_z c.ranges.x, to_z-of_z c.ranges.y, to_z-of_z c.ranges.sum, to_z-of_z (wide_x c), to_z-of_z (wide_y c), to_z-of_z (product c), count_is c, to_z-of_z (all c), to_z-of_z (sum c))
    refl
