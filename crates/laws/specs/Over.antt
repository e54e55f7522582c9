-- A list written over the front of another, whose later elements stay.
use Rattle.std.specs.Prelude.{◌≡◌, take, get_or, set}
use Rattle.std.proofs.Math.Path.{refl, ap, sym, ◌∙◌}
use mathlib.Core.List.{List, [], ◌∷◌, ◌++◌}
use Prim.Native.Nat.{ℕ, zero, suc, ◌+◌, ◌-◌, ◌<◌, ◌≤◌}
use Rattle.std.proofs.Common.{not-suc-le-zero, le_of_suc-le-suc, arith, length-drop, length-set, drop-drop}
use Rattle.std.proofs.Math.ListN.{length, drop, length-append}
use Rattle.std.proofs.Math.Seq.{take_at, drop-append-add}
use Rattle.std.proofs.lemmas.List.{set-append_left, get_or_append_left}
use Rattle.laws.specs.Front.{front}

module _ {ℓ} {A : Type ℓ} where
  unfoldable pub over : List A → List A → List A
  over s d = s ++ drop (length s) d

  pub over-length : (s d : List A) → length s ≤ length d → length (over s d) ≡ length d
  unfolding over
  over-length s d h = simp (length-append, length-drop) (omega arith)

  -- its front is read and stored into in place
  pub over-at : (s d : List A) (j : ℕ) → j < length s → (z : A) → get_or (over s d) j z ≡ get_or s j z
  unfolding over
  over-at s d j h z = get_or_append_left s (drop (length s) d) z j h

  pub over-set : (s d : List A) (j : ℕ) → j < length s → (x : A) → set (over s d) j x ≡ over (set s j x) d
  unfolding over
  over-set s d j h x = set-append_left s (drop (length s) d) j x h ∙ ap {B = List A} (λ n. set s j x ++ drop n d) (sym (length-set s j x))

  -- what is behind stays
  pub drop-over : (s d : List A) (n : ℕ) → length s ≤ n → drop n (over s d) ≡ drop n d
  unfolding over
  drop-over s d n h = cut (n - length s) (omega arith)
    where
      cut : (k : ℕ) → length s + k ≡ n → drop n (s ++ drop (length s) d) ≡ drop n d
      cut k e = rw (← e, drop-append-add) (drop-drop k (length s) d)

  pub over-over : (s t d : List A) → length s ≤ length t → over t (over s d) ≡ over t d
  unfolding over
  over-over s t d h = ap {B = List A} (λ r. t ++ r) (drop-over s d (length t) h)

  pub take-over : (s d : List A) (n : ℕ) → length s ≡ n → take n (over s d) ≡ s
  unfolding over
  take-over s d n e = take_at s _ n e

  -- a loop that has filled as many elements as s has is done
  pub front-over : (s d : List A) (i : ℕ) → length s ≡ i → length s ≤ length d → front s d i ≡ over s d
  unfolding over front
  front-over [] d zero e h = refl
  front-over [] d (suc i) e h = refl
  front-over (x ∷ s) [] i e h = absurd (not-suc-le-zero h)
  front-over (x ∷ s) (y ∷ d) zero e h = absurd (omega arith)
  front-over (x ∷ s) (y ∷ d) (suc i) e h = ap {B = List A} (λ r. x ∷ r) (front-over s d i (omega arith) (le_of_suc-le-suc h))
