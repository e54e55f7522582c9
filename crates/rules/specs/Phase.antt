-- Phases on the 32-bit circle (document 02, S-5 and S-8): where a value with an error stands, and the slot that is nearest.
use Rattle.std.specs.Prelude.{Bool, not, ◌&&◌, ◌||◌, ℕ, ◌+◌, ◌*◌, ◌/◌, ◌%◌, ◌^◌, eqb, ltb, ℤ, pos, nat_abs, ◌+ℤ◌, Result, Ok, Err}
use Rattle.std.specs.Int.Signed.{le_z, lt_z}
use Rattle.laws.specs.Modulo.{modulo}
use Rattle.laws.specs.Test.{if◌then◌otherwise◌}
use Rattle.rules.specs.declared.Reason.{Reason}
use Rattle.rules.specs.Refusal.{reason_number}

-- P is one of the four periods.
unfoldable pub is_period : ℕ → Bool
is_period P = eqb P 2 || eqb P 4 || eqb P 8 || eqb P 16

-- v is one of the values 0 to 2P - 1.
unfoldable pub is_value : ℕ → ℤ → Bool
is_value P v = le_z (pos 0) v && lt_z v (pos (2 * P))

-- From one slot to the next.
unfoldable pub step : ℕ → ℕ
step P = 2 ^ 31 / P

unfoldable pub half : ℕ → ℕ
half P = step P / 2

-- Value v stands at v times the step, the error is added, and phases wrap at 2^32.
unfoldable pub phase : ℕ → ℕ → ℤ → ℕ
phase P v e = modulo (pos (v * step P) +ℤ e) (2 ^ 32)

-- The nearer of slots k and k + 1 for a phase that is so far past slot k, h being half a step; exactly between the two the even one.
unfoldable pub nearer : ℕ → ℕ → ℕ → ℕ
nearer h k past =
    if ltb past h then k
    otherwise if ltb h past then k + 1
    otherwise if eqb (k % 2) 0 then k
    otherwise k + 1

-- The rounding: the nearest of the slots 0 to 2P - 1. Slot k stands at k times the step, and behind slot 2P - 1 comes slot 0.
unfoldable pub nearest : ℕ → ℕ → ℕ
nearest P x = nearer (half P) (x / step P) (x % step P) % (2 * P)

unfoldable pub slot : ℕ → ℕ → ℤ → ℕ
slot P v e = nearest P (phase P v e)

-- ---- The answer: number 0 and the slot, or document 02's number; line 0.

pub record SlotAnswer : Type 0 where
  pub number : ℕ
  pub line : ℕ
  pub slot : ℕ

abbrev pub found : ℕ → SlotAnswer
found k = record { number = 0; line = 0; slot = k }

abbrev pub turned_away : ℕ → SlotAnswer
turned_away n = record { number = n; line = 0; slot = 0 }

-- 36 where P is none of the four, then 37 where v is below 0 or above 2P - 1.
unfoldable pub slot_answer : ℕ → ℤ → ℤ → SlotAnswer
slot_answer P v e =
    if not (is_period P) then turned_away 36
    otherwise if not (is_value P v) then turned_away 37
    otherwise found (slot P (nat_abs v) e)

-- Document 02's number and value for each reply.
abbrev pub slot_reply : Result ℕ Reason → SlotAnswer
slot_reply (Ok k) = found k
slot_reply (Err r) = turned_away (reason_number r)
