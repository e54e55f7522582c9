-- Slots reckoned by hand, halves going to the even slot (document 02, S-8): one table, one proof over it. The steps of 2, 4, 8 and 16 are
-- 2^30, 2^29, 2^28 and 2^27.
use Rattle.std.specs.Prelude.{◌≡◌, refl, List, [], ◌∷◌, map, ℕ, ◌+◌, ◌-◌, ◌^◌, ℤ, pos, negsuc, neg_ℤ}
use Rattle.laws.specs.Modulo.{modulo}
use Rattle.rules.specs.Phase.{is_period, is_value, step, half, phase, nearer, nearest, slot, SlotAnswer, found, turned_away, slot_answer}

pub record Case : Type 0 where
  pub P : ℕ
  pub v : ℤ
  pub error : ℤ
  pub gives : SlotAnswer

-- Value and error, above 0 or below it, and the slot found.
abbrev over : ℕ → ℕ → ℕ → ℕ → Case
over P v e k = record { P = P; v = pos v; error = pos e; gives = found k }

abbrev under : ℕ → ℕ → ℕ → ℕ → Case
under P v e k = record { P = P; v = pos v; error = neg_ℤ (pos e); gives = found k }

abbrev away : ℕ → ℤ → ℕ → Case
away P v n = record { P = P; v = v; error = pos 0; gives = turned_away n }

pub cases : List Case
cases =
    -- both halves of slot 0, slot 1 and slot 2P - 1
    under 2 0 (2 ^ 29) 0 ∷ over 2 0 (2 ^ 29) 0 ∷ under 2 1 (2 ^ 29) 0 ∷ over 2 1 (2 ^ 29) 2 ∷ under 2 3 (2 ^ 29) 2 ∷ over 2 3 (2 ^ 29) 0
    ∷ under 4 0 (2 ^ 28) 0 ∷ over 4 0 (2 ^ 28) 0 ∷ under 4 1 (2 ^ 28) 0 ∷ over 4 1 (2 ^ 28) 2 ∷ under 4 7 (2 ^ 28) 6 ∷ over 4 7 (2 ^ 28) 0
    ∷ under 8 0 (2 ^ 27) 0 ∷ over 8 0 (2 ^ 27) 0 ∷ under 8 1 (2 ^ 27) 0 ∷ over 8 1 (2 ^ 27) 2 ∷ under 8 15 (2 ^ 27) 14 ∷ over 8 15 (2 ^ 27) 0
    ∷ under 16 0 (2 ^ 26) 0 ∷ over 16 0 (2 ^ 26) 0 ∷ under 16 1 (2 ^ 26) 0 ∷ over 16 1 (2 ^ 26) 2 ∷ under 16 31 (2 ^ 26) 30 ∷ over 16 31 (2 ^ 26) 0
    -- no error, and one beside each half
    ∷ over 2 0 0 0 ∷ under 2 0 (2 ^ 29 - 1) 0 ∷ under 2 0 (2 ^ 29 + 1) 3 ∷ over 2 0 (2 ^ 29 - 1) 0 ∷ over 2 0 (2 ^ 29 + 1) 1
    ∷ over 16 31 0 31 ∷ under 16 31 (2 ^ 26 - 1) 31 ∷ under 16 31 (2 ^ 26 + 1) 30 ∷ over 16 31 (2 ^ 26 - 1) 31 ∷ over 16 31 (2 ^ 26 + 1) 0
    -- both ends of 32 bits: half of the way round
    ∷ under 2 1 (2 ^ 31) 3 ∷ over 2 1 (2 ^ 31 - 1) 3 ∷ under 16 31 (2 ^ 31) 15 ∷ over 16 31 (2 ^ 31 - 1) 15
    -- P is none of the four, whatever v is
    ∷ away 0 (pos 0) 36 ∷ away 1 (pos 0) 36 ∷ away 3 (negsuc 0) 36 ∷ away 6 (pos 1) 36 ∷ away 17 (pos 99) 36 ∷ away 32 (pos 0) 36
    -- v is below 0 or above 2P - 1
    ∷ away 2 (negsuc 0) 37 ∷ away 2 (pos 4) 37 ∷ away 16 (pos 32) 37 ∷ away 16 (neg_ℤ (pos (2 ^ 31))) 37 ∷ []

pub worked_slots : map (λ c. slot_answer c.P c.v c.error) cases ≡ map (λ c. c.gives) cases
unfolding cases slot_answer is_period is_value slot nearest nearer phase modulo step half
worked_slots = refl
