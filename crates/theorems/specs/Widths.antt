-- The widths of a circle of 2P slots (document 02, S-5), for every P that divides 2^30: there is a half step, two of them make a step, and
-- 2P steps go round. The four periods divide it.
use Rattle.std.specs.Prelude.{◌≡◌, refl, true, ◌||◌, ℕ, zero, suc, ◌*◌, ◌/◌, ◌<◌, ◌≤◌, ◌^◌, eqb}
use Rattle.std.proofs.Common.{sym, subst, ⊎_elim, arith, eqb→eq}
use Rattle.std.specs.Int.{◌∣◌}
use Rattle.std.proofs.Math.Nat as N
use Rattle.laws.specs.Test.{is_T, or_cases}
use Rattle.rules.specs.Phase.{is_period, step, half}

pub record Widths (P : ℕ) : Type 0 where
  pub half_some : 0 < half P
  pub half_most : half P ≤ 2 ^ 30
  pub two_halves : step P ≡ 2 * half P
  pub around : 2 * P * step P ≡ 2 ^ 32
  pub some_slots : 0 < P

pub some_step : {P : ℕ} → Widths P → 0 < step P
some_step w = omega (arith, w.half_some, w.two_halves)

pub widths : (P : ℕ) → P ∣ 2 ^ 30 → Widths P
unfolding step half
widths P d =
    record { half_some = some_half; half_most = at_most; two_halves = rw (halved, step_is); around = round; some_slots = some }
  where
    h : ℕ
    h = 2 ^ 30 / P

    whole : P * h ≡ 2 ^ 30
    whole = N.mul-div_cancel' P d

    some : 0 < P
    some = N.pos_of_dvd_of_pos d (omega arith)

    step_is : 2 ^ 31 / P ≡ 2 * h
    step_is = N.div-eq_of_eq-mul_right some (omega (arith, whole, N.mul_left_comm P 2 h))

    halved : 2 ^ 31 / P / 2 ≡ h
    halved = rw step_is (omega arith)

    some_half : 0 < 2 ^ 31 / P / 2
    some_half = rw halved (by h whole)
      where
        by : (k : ℕ) → P * k ≡ 2 ^ 30 → 0 < k
        by zero e = absurd (omega (arith, N.mul-zero P))
        by (suc k) e = omega arith

    at_most : 2 ^ 31 / P / 2 ≤ 2 ^ 30
    at_most = rw halved (N.div-le_self (2 ^ 30) P)

    round : 2 * P * (2 ^ 31 / P) ≡ 2 ^ 32
    round = rw step_is (omega (arith, whole, N.mul_assoc 2 P (2 * h), N.mul_left_comm P 2 h))

-- ---- The four periods.

-- what holds of 2, 4, 8 and 16 holds of every period
by_period : (Q : ℕ → Type 0) → Q 2 → Q 4 → Q 8 → Q 16 → (P : ℕ) → is_period P ≡ true → Q P
unfolding is_period
by_period Q two four eight sixteen P t =
    ⊎_elim
    (λ u. ⊎_elim (λ w. ⊎_elim (is 2 two) (is 4 four) (or_cases (eqb P 2) (eqb P 4) w)) (is 8 eight) (or_cases (eqb P 2 || eqb P 4) (eqb P 8) u))
    (is 16 sixteen)
    (or_cases (eqb P 2 || eqb P 4 || eqb P 8) (eqb P 16) t)
  where
    is : (k : ℕ) → Q k → eqb P k ≡ true → Q P
    is k q t = subst Q (sym (eqb→eq P k (is_T (eqb P k) t))) q

pub period_divides : (P : ℕ) → is_period P ≡ true → P ∣ 2 ^ 30
period_divides =
    by_period (λ P. P ∣ 2 ^ 30) (N.dvd_of_mod-eq-zero 2 refl) (N.dvd_of_mod-eq-zero 4 refl) (N.dvd_of_mod-eq-zero 8 refl) (N.dvd_of_mod-eq-zero 16 refl)

pub period_most : (P : ℕ) → is_period P ≡ true → P ≤ 16
period_most = by_period (λ P. P ≤ 16) (omega arith) (omega arith) (omega arith) (omega arith)
