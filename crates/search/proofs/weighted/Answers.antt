use Rattle.std.proofs.Common.{◌≡◌, ◌≤◌, arith, nat_abs, ◌*ℤ◌, w64, to_z, of_z, to_z-of_z}
use Rattle.laws.specs.Integer.{fits_abs, abs_mul_le}
use Rattle.search.specs.Search.{weighted_small}
use Rattle.search.proofs.weighted.Goals as goal
use Rattle.search.proofs.weighted.Goals.{Start}

-- `search::weighted` meets its contract: each product is read back from its bits.
module _ (c : Start) where
  first : nat_abs (c.args.a *ℤ c.args.b) ≤ 2048
  first = abs_mul_le c.args.a c.args.b c.requires.0 c.requires.1.0

  first_read : to_z w64 (of_z w64 (to_z w64 (of_z w64 c.args.a) *ℤ to_z w64 (of_z w64 c.args.b))) ≡ c.args.a *ℤ c.args.b
  first_read = rw (to_z-of_z c.ranges.a, to_z-of_z c.ranges.b) (to_z-of_z {w = w64} (fits_abs (c.args.a *ℤ c.args.b) (omega (arith, first))))

  all : nat_abs ((c.args.a *ℤ c.args.b) *ℤ c.args.moment) ≤ 2251799813685248
  all = weighted_small c.args.a c.args.b c.args.moment c.requires.0 c.requires.1.0 c.requires.1.1

pub overflow_mul-result-2 : goal.overflow_mul-result-2
overflow_mul-result-2 c =
    let s = (goal.at.overflow_mul-result-2 c).Start in
    rw (first_read s, to_z-of_z c.ranges.moment) (fits_abs ((c.args.a *ℤ c.args.b) *ℤ c.args.moment) (omega (arith, all s)))

result : (c : Start) → to_z w64 (of_z w64 (to_z w64 (of_z w64 (to_z w64 (of_z w64 c.args.a) *ℤ to_z w64 (of_z w64 c.args.b))) *ℤ to_z w64 (of_z w64 c.args.moment))) ≡ (c.args.a *ℤ c.args.b) *ℤ c.args.moment
result c = rw (first_read c, to_z-of_z c.ranges.moment) (to_z-of_z {w = w64} (fits_abs ((c.args.a *ℤ c.args.b) *ℤ c.args.moment) (omega (arith, all c))))

pub returns : goal.returns
returns c = let s = (goal.at.returns c).Start in record { is = result s; small = rw (result s) (all s) }
