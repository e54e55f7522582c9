-- Which boots were begun, and when, as the code has it: an array by their numbers.
use Rattle.std.specs.Prelude.{◌≡◌, refl, Bool, true, false, List, [], ◌∷◌, ◌++◌, map, ℕ, ◌+◌, ◌<◌, ◌≤◌, eqb, length, get_or, set, replicate, take, Option, Some, None, is_some, unwrap_or}
use Rattle.std.proofs.Common.{sym, ap, ◌∙◌, ⊎_elim, add-one, arith, ne_eqb, length-set, take_all, take-suc, get_or-set_same, get_or-set_other}
use Rattle.std.proofs.lemmas.Bool.{false_from_ne_true}
use Rattle.std.proofs.lemmas.List.{get_or-replicate, get_or_past, get_or-map, length-map}
use Rattle.laws.specs.Front.{Filling, filling_step}
use Rattle.laws.specs.Over.{over, front-over}
use Rattle.laws.specs.Test.{if◌then◌otherwise◌, decide, eq-or-ne, lt_or_le, neither_left, neither_right, not_both}
use Rattle.rules.specs.Network.{member}
use Rattle.rules.specs.Workers.{Start, boots_in, begun, starts_at, start_of}
use Rattle.theorems.specs.Members.{member_head, member-left, member_right, member_neither}
use Rattle.theorems.specs.StartLogs.{still_begun, now_begun, begun_cases, start_old, start_new, start_of-starts_at}

-- Whether a boot was begun.
abbrev pub begun_in : List (Option ℕ) → ℕ → Bool
begun_in array b = is_some (get_or array b None)

-- The tick at which a boot was begun, 0 where it was not.
abbrev pub tick_in : List (Option ℕ) → ℕ → ℕ
tick_in array b = unwrap_or (get_or array b None) 0

-- Those of bs are begun at tick t, and no other.
pub record Begins (t : ℕ) (bs : List ℕ) (before after : List (Option ℕ)) : Type 0 where
  pub long : length after ≡ length before
  pub at : (b : ℕ) → get_or after b None ≡ (if member b bs then Some t otherwise get_or before b None)

-- The array says what a log does.
pub record Logged (log : List Start) (array : List (Option ℕ)) : Type 0 where
  pub which : (b : ℕ) → begun_in array b ≡ begun log b
  pub when : (b : ℕ) → tick_in array b ≡ start_of log b

-- ---- laws: some are begun, one by one

pub begins_none : (t : ℕ) (array : List (Option ℕ)) → Begins t [] array array
unfolding member
begins_none t array = record { long = refl; at = λ b. refl }

another : (b x : ℕ) (l : List ℕ) → (b ≡ x → ⊥) → member b (l ++ (x ∷ [])) ≡ member b l
another b x l n =
    ⊎_elim (λ (e : member b l ≡ true). member-left b l (x ∷ []) e ∙ sym e)
    (λ (e : member b l ≡ false). member_neither b l (x ∷ []) e (unfold member in (rw (ne_eqb b x n))) ∙ sym e)
    (decide (member b l))

module _ (t : ℕ) (bs : List ℕ) (before now : List (Option ℕ)) (k : ℕ) (w : Begins t (take k bs) before now) where
  pub begins_more : (d : ℕ) → k < length bs → get_or bs k d < length before → Begins t (take (k + 1) bs) before (set now (get_or bs k d) (Some t))
  begins_more d h l =
      record {
        long = simp length-set w.long;
        at = λ b.
            rw first
            (⊎_elim
            (λ (e : b ≡ x). rw (e, get_or-set_same now x (Some t) None (omega (arith, w.long)), member_right x (take k bs) (x ∷ []) (member_head x [])))
            (λ (n : b ≡ x → ⊥). rw (get_or-set_other now x b (Some t) None n, another b x (take k bs) n) (w.at b))
            (eq-or-ne b x));
      }
    where
      x : ℕ
      x = get_or bs k d

      first : take (k + 1) bs ≡ take k bs ++ (x ∷ [])
      first = rw (add-one, take-suc bs k d h) refl

  pub begins_all : length bs ≤ k → Begins t bs before now
  begins_all h = rw (take_all k bs h) at w

-- ---- laws: what the log tells

start_none : (log : List Start) (b : ℕ) → begun log b ≡ false → start_of log b ≡ 0
unfolding begun boots_in start_of member
start_none [] b h = refl
start_none (s ∷ log) b h = rw (neither_left (eqb b s.boot) _ h) (start_none log b (neither_right (eqb b s.boot) _ h))

starts_none : (t : ℕ) (bs : List ℕ) (b : ℕ) → member b bs ≡ false → start_of (starts_at t bs) b ≡ 0
unfolding starts_at start_of member
starts_none t [] b h = refl
starts_none t (c ∷ bs) b h = rw (neither_left (eqb b c) _ h) (starts_none t bs b (neither_right (eqb b c) _ h))

no_place : (b : ℕ) → ◌≡◌ {A = Option ℕ} (get_or (replicate 672 None) b None) None
no_place b = ⊎_elim (λ (l : b < 672). get_or-replicate 672 b None None l) (λ (l : 672 ≤ b). get_or_past (replicate 672 None) b None l) (lt_or_le b 672)

-- at the beginning nothing was begun
pub logged_none : Logged [] (replicate 672 None)
unfolding begun boots_in start_of member
logged_none = record { which = λ b. ap is_some (no_place b); when = λ b. ap (λ o. unwrap_or o 0) (no_place b) }

module _ (log : List Start) (t : ℕ) (bs : List ℕ) (before after : List (Option ℕ)) (h : Logged log before) (w : Begins t bs before after)
    (new : (b : ℕ) → member b bs ≡ true → begun log b ≡ false) where
  abbrev more : List Start
  more = log ++ starts_at t bs

  at_now : (b : ℕ) → member b bs ≡ true → get_or after b None ≡ Some t
  at_now b m = w.at b ∙ rw m refl

  at_before : (b : ℕ) → member b bs ≡ false → get_or after b None ≡ get_or before b None
  at_before b m = w.at b ∙ rw m refl

  begun_only : (b : ℕ) → member b bs ≡ false → begun more b ≡ begun log b
  begun_only b m =
      ⊎_elim (λ (e : begun log b ≡ true). still_begun log t bs b e ∙ sym e)
      (λ (e : begun log b ≡ false).
      false_from_ne_true (begun more b)
      (λ k. ⊎_elim (λ (q : begun log b ≡ true). not_both _ q e) (λ (q : member b bs ≡ true). not_both _ q m) (begun_cases log t bs b k))
      ∙ sym e)
      (decide (begun log b))

  start_only : (b : ℕ) → member b bs ≡ false → start_of more b ≡ start_of log b
  start_only b m =
      ⊎_elim (λ (e : begun log b ≡ true). start_old log (starts_at t bs) b e)
      (λ (e : begun log b ≡ false). start_new log (starts_at t bs) b e ∙ starts_none t bs b m ∙ sym (start_none log b e))
      (decide (begun log b))

  pub logged_more : Logged (log ++ starts_at t bs) after
  logged_more =
      record {
        which = λ b.
            ⊎_elim (λ (m : member b bs ≡ true). ap is_some (at_now b m) ∙ sym (now_begun log t bs b m))
            (λ (m : member b bs ≡ false). ap is_some (at_before b m) ∙ h.which b ∙ sym (begun_only b m))
            (decide (member b bs));
        when = λ b.
            ⊎_elim (λ (m : member b bs ≡ true). ap (λ o. unwrap_or o 0) (at_now b m) ∙ sym (start_new log (starts_at t bs) b (new b m) ∙ start_of-starts_at t bs b m))
            (λ (m : member b bs ≡ false). ap (λ o. unwrap_or o 0) (at_before b m) ∙ h.when b ∙ sym (start_only b m))
            (decide (member b bs));
      }

-- ---- laws: the ticks, one by one

module _ (array : List (Option ℕ)) (bs old t : List ℕ) (k : ℕ) (f : Filling (map (tick_in array) bs) old t k) (room : length bs ≤ length old) where
  pub starts_next : (v : ℕ) → v ≡ tick_in array (get_or bs k 0) → k < length bs → Filling (map (tick_in array) bs) old (set t k v) (k + 1)
  starts_next v e h = filling_step (map (tick_in array) bs) old t k v 0 f (e ∙ sym (get_or-map (tick_in array) bs k 0 0 h)) (rw length-map h) (omega arith)

  pub starts_done : length bs ≡ k → t ≡ over (map (tick_in array) bs) old
  starts_done e = f.so_far ∙ front-over (map (tick_in array) bs) old k (rw length-map e) (rw length-map room)

pub ruleset beginning = (begins_none, begins_all)

pub ruleset showing = (starts_next, starts_done)
