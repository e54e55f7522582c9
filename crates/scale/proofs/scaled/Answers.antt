use Rattle.std.proofs.Common.{refl, ◌≤◌, arith, nat_abs, ◌+ℤ◌, ◌*ℤ◌, w64, SFits, to_z-of_z}
use Rattle.laws.specs.Integer.{fits_abs, abs_mul_le, abs_add}
use Rattle.scale.proofs.scaled.Goals as goal
use Rattle.scale.proofs.scaled.Goals.{Start}

-- `scale::scaled` meets its contract: 32 · 31 twice is 1984.
size : (c : Start) → (nat_abs (c.args.a *ℤ c.args.x) ≤ 992) × (nat_abs (c.args.b *ℤ c.args.y) ≤ 992)
    × (nat_abs ((c.args.a *ℤ c.args.x) +ℤ (c.args.b *ℤ c.args.y)) ≤ 1984)
size c =
    let ax = abs_mul_le c.args.a c.args.x c.requires.0 c.requires.1.0 in
    let by = abs_mul_le c.args.b c.args.y c.requires.1.1.0 c.requires.1.1.1 in
    (omega arith, omega arith, omega (arith, abs_add (c.args.a *ℤ c.args.x) (c.args.b *ℤ c.args.y)))

ax_fits : (c : Start) → SFits w64 (c.args.a *ℤ c.args.x)
ax_fits c = fits_abs _ (omega (arith, size c))

by_fits : (c : Start) → SFits w64 (c.args.b *ℤ c.args.y)
by_fits c = fits_abs _ (omega (arith, size c))

sum_fits : (c : Start) → SFits w64 ((c.args.a *ℤ c.args.x) +ℤ (c.args.b *ℤ c.args.y))
sum_fits c = fits_abs _ (omega (arith, size c))

pub overflow_add-result : goal.overflow_add-result
overflow_add-result c =
    simp (to_z-of_z c.ranges.a, to_z-of_z c.ranges.x, to_z-of_z c.ranges.b, to_z-of_z c.ranges.y, to_z-of_z (ax_fits c), to_z-of_z (by_fits c)) (sum_fits c)

pub returns : goal.returns
returns c =
    simp (to_z-of_z c.ranges.a, to_z-of_z c.ranges.x, to_z-of_z c.ranges.b, to_z-of_z c.ranges.y, to_z-of_z (ax_fits c), to_z-of_z (by_fits c), to_z-of_z (sum_fits c))
    (record { value = refl; size = (size c).2 })
