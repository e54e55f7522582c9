-- The definitions of phases as the machine reckons them: what the proofs of the functions cite.
use Rattle.std.specs.Prelude.{◌≡◌, ℕ, ◌+◌, ◌*◌, ◌/◌, ◌%◌, ◌^◌, ◌<◌, true, false, ℤ, pos, negsuc, ◌+ℤ◌, int_le, int_lt, nat_lt, unsigned_abs}
use Rattle.std.specs.Int.{w32, cast_unsigned}
use Rattle.std.proofs.Common.{sym}
use Rattle.std.proofs.Math.Nat as N
use native.Mathlib.Omega.{arith}
use Rattle.std.specs.Int.Signed.{mag}
use Rattle.laws.specs.Integer.{plus, minus, lt_z_true}
use Rattle.laws.specs.Modulo.{modulo, modulo_above, modulo_below, modulo-sum}
use Rattle.laws.specs.Test.{is_T, both_left, both_right}
use Rattle.rules.specs.Phase.{is_period, is_value, step, half, phase, nearer, nearest}
use Rattle.theorems.specs.Widths.{Widths, some_step, widths, period_divides}

-- ---- A signed number as its 32-bit pattern.

pattern : (e : ℤ) → mag e < 2 ^ 31 → cast_unsigned w32 e ≡ modulo e (2 ^ 32)
pattern (pos a) h = sym (modulo_above a (2 ^ 32) (omega arith))
pattern (negsuc a) h = sym (modulo_below a (2 ^ 32) (omega arith))

pub moved_is : (x : ℕ) (e : ℤ) → mag e < 2 ^ 31 → (x + cast_unsigned w32 e) % 2 ^ 32 ≡ modulo (pos x +ℤ e) (2 ^ 32)
moved_is x e h = rw (pattern e h) (sym (modulo-sum x (2 ^ 32) e (omega arith)))

module _ (P : ℕ) (p : is_period P ≡ true) where
  pub circle : Widths P
  circle = widths P (period_divides P p)

  -- ---- The tests of v.

  pub value_below : (v : ℤ) → int_le (pos 0) v ≡ false → int_le (pos 0) v ≡ is_value P v
  unfolding is_value
  value_below v h = rw h

  pub value_above : (v : ℤ) (n : ℕ) → int_le (pos 0) v ≡ true → n ≡ unsigned_abs v → nat_lt n (2 * P) ≡ is_value P v
  unfolding is_value
  value_above (pos a) n h e = rw (e, h)
  value_above (negsuc a) n h e = absurd (is_T false h)

  module _ (v : ℤ) (h : is_value P v ≡ true) where
    in_circle : unsigned_abs v < 2 * P
    unfolding is_value plus minus
    in_circle = by v (both_left (int_le (pos 0) v) (int_lt v (pos (2 * P))) h) (both_right (int_le (pos 0) v) (int_lt v (pos (2 * P))) h)
      where
        by : (z : ℤ) → int_le (pos 0) z ≡ true → int_lt z (pos (2 * P)) ≡ true → unsigned_abs z < 2 * P
        by (pos a) t e = let i = lt_z_true (pos a) (pos (2 * P)) e in omega arith
        by (negsuc a) t e = absurd (is_T false t)

    -- where v stands is still on the circle
    pub stands : (a s : ℕ) → a ≡ unsigned_abs v → s ≡ step P → a * s < 2 ^ 32
    stands a s e f = rw (e, f) (omega (arith, N.mul-lt-mul_of_pos_right in_circle (some_step circle), circle.around))

pub phase_is : (P a s v : ℕ) (x e : ℤ) → a ≡ v → s ≡ step P → x ≡ e → modulo (pos (a * s) +ℤ x) (2 ^ 32) ≡ phase P v e
unfolding phase
phase_is P a s v x e f g h = rw (f, g, h)

-- ---- The slots.

pub nearest_is : (P x s k n : ℕ) → s ≡ step P → k ≡ x / s → n ≡ nearer (s / 2) k (x % s) → n % (2 * P) ≡ nearest P x
unfolding nearest half
nearest_is P x s k n e f g = rw (g, f, e)
