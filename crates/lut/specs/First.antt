-- The first of a list that passes, as `find` over the places and `position` tell it.
use Rattle.std.specs.Prelude.{◌≡◌, Bool, true, false, cond, List, ℕ, ◌≤◌, ◌<◌, ltb, length, get_or, Option, Some, None, MatchOption}
use Rattle.std.specs.List.{position, position_or_len}
use Rattle.std.proofs.Common.{sym, ◌∙◌, refl, arith, lt-ltb, le-ltb}
use Rattle.std.proofs.lemmas.List.Sums.{position_or_len_is}
use borrow.Author.Tests.{ltb-true, ltb-false}

-- the first of the numbers below n that passes, if one does
abbrev pub FirstOf : ℕ → (ℕ → Bool) → Option ℕ → Type 0
FirstOf n p o = MatchOption o ((k : ℕ) → 0 ≤ k → k < n → p k ≡ false) (λ i. (0 ≤ i) × (i < n) × (p i ≡ true) × ((k : ℕ) → 0 ≤ k → k < i → p k ≡ false))

module _ {X : Type 0} (p : X → Bool) (xs : List X) where
  module _ (d : X) (q : ℕ → Bool) (same : (k : ℕ) → k < length xs → q k ≡ p (get_or xs k d)) where
    place_is : (i : ℕ) → i ≤ length xs → ((k : ℕ) → k < i → q k ≡ false) → (i < length xs → q i ≡ true) → position_or_len p xs ≡ i
    place_is i l before here =
        position_or_len_is p xs i d l (λ k h. sym (same k (omega arith)) ∙ before k h) (λ h. sym (same i h) ∙ here h)

    pub first_is : (o : Option ℕ) → FirstOf (length xs) q o → o ≡ position p xs
    first_is None f =
        rw (place_is (length xs) (omega arith) (λ k h. f k (omega arith) h) (λ h. absurd (omega arith)), le-ltb (length xs) (length xs) (omega arith)) refl
    first_is (Some i) f =
        rw (place_is i (omega (arith, f.1)) (λ k h. f.3 k (omega arith) h) (λ h. f.2), lt-ltb i (length xs) f.1) refl

  pub position_some : (at : ℕ) → position p xs ≡ Some at → (at ≡ position_or_len p xs) × (position_or_len p xs < length xs)
  position_some at = by (ltb (position_or_len p xs) (length xs)) (ltb-true (position_or_len p xs) (length xs))
    where
      by : (b : Bool) → (b ≡ true → position_or_len p xs < length xs) → cond b (Some (position_or_len p xs)) None ≡ Some at → (at ≡ position_or_len p xs) × (position_or_len p xs < length xs)
      by true h e = (cc, h refl)
      by false h e = cc

  pub position_none : position p xs ≡ None → length xs ≤ position_or_len p xs
  position_none = by (ltb (position_or_len p xs) (length xs)) (ltb-false (position_or_len p xs) (length xs))
    where
      by : (b : Bool) → (b ≡ false → length xs ≤ position_or_len p xs) → cond b (Some (position_or_len p xs)) None ≡ None → length xs ≤ position_or_len p xs
      by true h e = cc
      by false h e = h refl
