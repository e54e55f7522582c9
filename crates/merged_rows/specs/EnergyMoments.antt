-- The energy of a scale pair by three moments of the rows (EnergyMoments in the Rust). That it is the energy of the merged coefficients is proved in proofs/EnergyMoments.antt.
use Rattle.std.specs.Prelude.{ℤ, pos, ◌+ℤ◌, ◌*ℤ◌}

-- What the moments add up.
unfoldable pub xx_of : ℤ → ℤ → ℤ
xx_of x y = x *ℤ x

unfoldable pub xy_of : ℤ → ℤ → ℤ
xy_of x y = x *ℤ y

unfoldable pub yy_of : ℤ → ℤ → ℤ
yy_of x y = y *ℤ y

-- EnergyMoments::energy: a²·xx + 2·a·b·xy + b²·yy
unfoldable pub by_moments : ℤ → ℤ → ℤ → ℤ → ℤ → ℤ
by_moments a b xx xy yy = (((a *ℤ a) *ℤ xx) +ℤ (((pos 2 *ℤ a) *ℤ b) *ℤ xy)) +ℤ ((b *ℤ b) *ℤ yy)
