-- A number as a local of 64 bits holds it.
use Rattle.std.specs.Prelude.{◌≡◌, ◌<◌, ◌≤◌, ◌^◌, ℤ, nat_abs}
use Rattle.std.specs.Int.{w64}
use Rattle.std.proofs.Common.{arith, to_z, of_z, to_z-of_z}
use Rattle.laws.specs.Integer.{fits_abs}

abbrev pub held : ℤ → ℤ
held z = to_z w64 (of_z w64 z)

pub held_is : (z : ℤ) → nat_abs z < 2 ^ 63 → held z ≡ z
held_is z h = to_z-of_z {w = w64} (fits_abs z h)

pub held_small : (z : ℤ) → nat_abs z ≤ 372 → to_z w64 (of_z w64 z) ≡ z
held_small z h = held_is z (omega arith)
