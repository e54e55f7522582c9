-- What is read back of a field: a number from its two bytes, those of a list's numbers, and a small coefficient from its byte or its word.
use Rattle.std.specs.Prelude.{◌≡◌, refl, List, [], ◌∷◌, ℕ, zero, suc, ◌+◌, ◌*◌, ◌/◌, ◌%◌, ◌<◌, ◌≤◌, ℤ, pos, nat_abs, ◌+ℤ◌, ◌-ℤ◌, length, get_or}
use mathlib.Core.List.{flat_map}
use Rattle.std.specs.Int.{w64}
use Rattle.std.proofs.Common.{arith, not-suc-le-zero, to_z, of_z, to_z-of_z}
use Rattle.laws.specs.Integer.{ints, plus, minus, abs_parts, one_part_zero, add_parts, sub_parts, fits_abs}
use Rattle.retuning.specs.Kept.{two_bytes, signed_byte}

pub number_back : (n : ℕ) → n % 256 + 256 * (n / 256) ≡ n
number_back n = omega arith

pub low_byte : (l : List ℕ) (i : ℕ) → i < length l → get_or (flat_map two_bytes l) (2 * i) 0 ≡ get_or l i 0 % 256
unfolding flat_map two_bytes
low_byte [] i h = absurd (not-suc-le-zero h)
low_byte (x ∷ l) zero h = refl
low_byte (x ∷ l) (suc i) h = let e : 2 * suc i ≡ suc (suc (2 * i)) = omega arith in rw e (low_byte l i (omega arith))

pub high_byte : (l : List ℕ) (i : ℕ) → i < length l → get_or (flat_map two_bytes l) (2 * i + 1) 0 ≡ get_or l i 0 / 256
unfolding flat_map two_bytes
high_byte [] i h = absurd (not-suc-le-zero h)
high_byte (x ∷ l) zero h = refl
high_byte (x ∷ l) (suc i) h = let e : 2 * suc i + 1 ≡ suc (suc (2 * i + 1)) = omega arith in rw e (high_byte l i (omega arith))

pub signed_back : (z : ℤ) → nat_abs z ≤ 31 → pos (signed_byte z) -ℤ pos 128 ≡ z
unfolding signed_byte plus minus
signed_back z h =
    omega
    (arith, ints, abs_parts z, abs_parts (z +ℤ pos 128), one_part_zero z, one_part_zero (z +ℤ pos 128), add_parts z (pos 128), sub_parts (pos (nat_abs (z +ℤ pos 128))) (pos 128))

pub word_back : (z : ℤ) → nat_abs z ≤ 31 → to_z w64 (of_z w64 z) ≡ z
word_back z h = to_z-of_z {w = w64} (fits_abs z (omega (arith, h)))
