-- A run of bytes at the front, as `position` finds its end.
use Rattle.std.specs.Prelude.{◌≡◌, refl, Bool, true, false, not, cond, List, [], ◌∷◌, ℕ, suc, ◌+◌, ◌<◌, ◌≤◌, min, eqb, ltb, length, take, drop, Option, Some, None}
use Rattle.std.specs.Borrow.{Bor}
use Rattle.std.specs.Bool.{then_some}
use Rattle.std.specs.List.{position_or_len}
use Rattle.std.specs.Option.{unwrap_or}
use Rattle.std.proofs.Common.{ap, ◌∙◌, ⊎_elim, arith, lt-ltb, le-ltb}
use Rattle.laws.specs.Test.{if◌then◌otherwise◌, if_both, lt_or_le}
use Rattle.std.proofs.Math.Option as M
use Rattle.rules.specs.Form.{Piece, run, run_of, give, onward, bits_from}
use Rattle.text.specs.FirstLine.{line_length, first_line, after_line}
use Rattle.text.specs.Pieces.{part, part_as}

module _ (f : ℕ → Bool) where
  run_within : (l : List ℕ) → length (run f l) ≤ length l
  unfolding run
  run_within [] = omega arith
  run_within (b ∷ s) = let h = run_within s in if_both (λ (w : List ℕ). length w ≤ suc (length s)) (f b) (omega arith) (omega arith)

  run_front : (l : List ℕ) → take (length (run f l)) l ≡ run f l
  unfolding run
  run_front [] = refl
  run_front (b ∷ s) = let h = run_front s in if_both (λ (w : List ℕ). take (length w) (b ∷ s) ≡ w) (f b) (ap {B = List ℕ} (λ t. b ∷ t) h) refl

  abbrev stop : List ℕ → ℕ
  stop l = position_or_len (λ b. not (f b)) l

  stop_is : (l : List ℕ) → stop l ≡ length (run f l)
  unfolding run
  stop_is [] = refl
  stop_is (b ∷ s) = by (f b) (stop_is s)
    where
      by : (t : Bool) → stop s ≡ length (run f s) → cond (not (not t)) (1 + stop s) 0 ≡ length (if t then b ∷ run f s otherwise [])
      by true e = omega arith
      by false e = refl

  run_ends : (l : List ℕ) (r : Option ℕ) → r ≡ cond (ltb (stop l) (length l)) (Some (stop l)) None → unwrap_or r (length l) ≡ length (run f l)
  run_ends l r e =
      ⊎_elim (λ (h : stop l < length l). rw (e, lt-ltb (stop l) (length l) h) (stop_is l))
      (λ (h : length l ≤ stop l). rw (e, le-ltb (stop l) (length l) h) (omega (arith, run_within l, stop_is l)))
      (lt_or_le (stop l) (length l))

  -- What a reader takes that takes the run w, if it is a good one, and leaves r.
  module _ (good : List ℕ → Bool) (s : List ℕ) (w r : Bor (List ℕ)) {n : ℕ} (p : Option ℕ) (e : p ≡ cond (ltb (stop s) (length s)) (Some (stop s)) None)
      (k : n ≡ unwrap_or p (length s)) (front : w.now ≡ take n s) (back : r.now ≡ drop n s) where
    run_is : w.now ≡ run f s
    run_is = front ∙ ap (λ m. take m s) (k ∙ run_ends s p e) ∙ run_front s

    pub run_taken : (b : Bool) → b ≡ good w.now → part (then_some b (w, r)) ≡ run_of f good s
    unfolding run_of
    run_taken true g = rw (← run_is, ← g, back, k, run_ends s p e, ← run_is)
    run_taken false g = rw (← run_is, ← g)

pub bits_taken : (r : Option (Bor (List ℕ) × Bor (List ℕ))) {o : M.Option (Piece (List ℕ))} → part r ≡ o → part_as bits_from r ≡ onward o (λ w. give (bits_from w))
unfolding onward
bits_taken None e = rw (← e)
bits_taken (Some p) e = rw (← e)

-- ---- The first line, up to the newline that `position` finds.

abbrev newline : ℕ → Bool
newline b = eqb b 10

line_length_is : (s : List ℕ) → line_length s ≡ min (position_or_len newline s + 1) (length s)
unfolding line_length
line_length_is [] = refl
line_length_is (b ∷ s) = by (eqb b 10) (line_length_is s)
  where
    by : (t : Bool) → line_length s ≡ min (position_or_len newline s + 1) (length s) → (if t then 1 otherwise suc (line_length s)) ≡ min (cond (not t) (1 + position_or_len newline s) 0 + 1) (suc (length s))
    by true e = omega arith
    by false e = omega arith

module _ (s : List ℕ) (p : Option ℕ) (e : p ≡ cond (ltb (position_or_len newline s) (length s)) (Some (position_or_len newline s)) None) {i n : ℕ}
    (k : i ≡ unwrap_or p (length s)) (m : n ≡ min (i + 1) (length s)) where
  line_stops : n ≡ line_length s
  line_stops =
      ⊎_elim (λ (h : position_or_len newline s < length s). omega (arith, line_length_is s, rw (e, lt-ltb (position_or_len newline s) (length s) h) at k))
      (λ (h : length s ≤ position_or_len newline s). omega (arith, line_length_is s, rw (e, le-ltb (position_or_len newline s) (length s) h) at k))
      (lt_or_le (position_or_len newline s) (length s))

  pub line_taken : take n s ≡ first_line s
  unfolding first_line
  line_taken = ap (λ j. take j s) line_stops

  pub line_left : drop n s ≡ after_line s
  unfolding after_line
  line_left = ap (λ j. drop j s) line_stops
