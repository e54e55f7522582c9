-- A number with a sign, read up to 65536 on both sides of 0.
use Rattle.std.specs.Prelude.{◌≡◌, refl, suc, ◌^◌, ◌<◌, min, ℤ, negsuc, neg_ℤ, nat_abs}
use Rattle.std.proofs.Math.Path.{ap}
use Rattle.std.proofs.Common.{◌∙◌, arith, to_z-of_z, to_z, of_z}
use Rattle.std.proofs.Math.IntN.{pos}
use Rattle.std.specs.Int.{w64}
use Rattle.laws.specs.Integer.{abs_neg, fits_abs}
use Rattle.rules.specs.Form.{Reader, ◌>>=◌, ◌>>◌, word, number, below}

unfoldable pub cap_signed : ℤ → ℤ
cap_signed (pos n) = pos (min 65536 n)
cap_signed (negsuc n) = neg_ℤ (pos (min 65536 (suc n)))

-- A minus and a number that is not 0.
unfoldable pub negative : Reader ℤ
negative = word "-" >> (number >>= below)

-- The cap is the same on both sides of 0, and what is below it is exact.
pub cap_abs : (z : ℤ) → nat_abs (cap_signed z) ≡ min 65536 (nat_abs z)
unfolding cap_signed
cap_abs (pos n) = refl
cap_abs (negsuc n) = abs_neg (pos (min 65536 (suc n)))

pub cap_exact : (z : ℤ) → nat_abs (cap_signed z) < 65536 → cap_signed z ≡ z
unfolding cap_signed
cap_exact (pos n) h = ap pos (omega arith)
cap_exact (negsuc n) h =
    let q : min 65536 (suc n) ≡ suc n = omega (arith, abs_neg (pos (min 65536 (suc n)))) in
    rw q

-- A local of 64 bits holds a capped number.
pub cap_back : (z u : ℤ) → z ≡ cap_signed u → to_z w64 (of_z w64 z) ≡ cap_signed u
cap_back z u e =
    let h : nat_abs z < 2 ^ 63 = rw (e, cap_abs u) (omega arith) in
    to_z-of_z {w = w64} (fits_abs z h) ∙ e
