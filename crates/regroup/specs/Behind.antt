-- One put behind others, by its place among them.
use Rattle.std.specs.Prelude.{◌≡◌, Bool, ◌&&◌, ◌⊎◌, take}
use Rattle.std.proofs.Math.Path.{refl, sym, ap, subst}
use Rattle.std.proofs.Common.{◌∙◌, true≢false, not-suc-le-zero, le_of_suc-le-suc}
use Rattle.std.proofs.Math.Bool.{true, false, not}
use mathlib.Core.List.{List, [], ◌∷◌, ◌++◌}
use Rattle.std.proofs.Math.Logic.{⊎_elim, inl, inr}
use Prim.Native.Nat.{ℕ, zero, suc, ◌+◌, ◌<◌, ◌≤◌, zero-le}
use Rattle.std.proofs.Math.Numerals.{add-one}
use native.Mathlib.Omega.{arith}
use Rattle.std.proofs.Math.ListN.{length, get_or, drop}
use Rattle.std.proofs.Math.Seq.{take-length, drop-length}
use Rattle.laws.specs.Select.{any}
use Rattle.laws.specs.Test.{if◌then◌otherwise◌, if_both, or_by_right, neither, neither_left, neither_right}
use Rattle.rules.specs.Network.{member}
use Rattle.rules.specs.Regroup.{behind}
use Rattle.theorems.specs.Members.{member_head, member-tail, member_cons}

-- Behind the last at which f holds: what is put there has place r.
pub record Behind (f : ℕ → Bool) (l : List ℕ) (r : ℕ) : Type 0 where
  pub within : r ≤ length l
  pub is : (x : ℕ) → behind f x l ≡ take r l ++ (x ∷ drop r l)

module _ (f : ℕ → Bool) where
  any_at : (l : List ℕ) (i : ℕ) → i < length l → f (get_or l i 0) ≡ true → any f l ≡ true
  unfolding any
  any_at [] i h t = absurd (not-suc-le-zero h)
  any_at (y ∷ l) zero h t = rw t
  any_at (y ∷ l) (suc i) h t = or_by_right (f y) (any f l) (any_at l i (le_of_suc-le-suc h) t)

  behind_none : (x : ℕ) (l : List ℕ) → any f l ≡ false → behind f x l ≡ l ++ (x ∷ [])
  unfolding behind any
  behind_none x [] e = refl
  behind_none x (y ∷ l) e = rw (neither_left (f y) (any f l) e) (ap {B = List ℕ} (λ r. y ∷ r) (behind_none x l (neither_right (f y) (any f l) e)))

  behind_later : (x y : ℕ) (l : List ℕ) → any f l ≡ true → behind f x (y ∷ l) ≡ y ∷ behind f x l
  unfolding behind
  behind_later x y l e = rw e (by (f y))
    where
      by : (b : Bool) → (if b && false then y ∷ x ∷ l otherwise y ∷ behind f x l) ≡ y ∷ behind f x l
      by true = refl
      by false = refl

  behind-last : (x : ℕ) (l : List ℕ) (i : ℕ) → i < length l → f (get_or l i 0) ≡ true → any f (drop (suc i) l) ≡ false → behind f x l ≡ take (suc i) l ++ (x ∷ drop (suc i) l)
  unfolding behind
  behind-last x [] i h t e = absurd (not-suc-le-zero h)
  behind-last x (y ∷ l) zero h t e = rw (t, e)
  behind-last x (y ∷ l) (suc i) h t e =
      behind_later x y l (any_at l i (le_of_suc-le-suc h) t) ∙ ap {B = List ℕ} (λ r. y ∷ r) (behind-last x l i (le_of_suc-le-suc h) t e)

  -- it holds at none from i on
  none_from : (l : List ℕ) (i : ℕ) → ((k : ℕ) → i ≤ k → k < length l → f (get_or l k 0) ≡ false) → any f (drop i l) ≡ false
  unfolding any
  none_from [] zero h = refl
  none_from [] (suc i) h = refl
  none_from (y ∷ l) zero h = neither (f y) (any f l) (h 0 zero-le (omega arith)) (none_from l 0 (λ k a b. h (suc k) zero-le (omega arith)))
  none_from (y ∷ l) (suc i) h = none_from l i (λ k a b. h (suc k) (omega arith) (omega arith))

  -- what `rposition` finds
  pub at_none : (l : List ℕ) → ((k : ℕ) → k < length l → f (get_or l k 0) ≡ false) → Behind f l (length l)
  at_none l h = record { within = omega arith; is = λ x. behind_none x l (none_from l 0 (λ k a b. h k b)) ∙ rw (take-length l, drop-length l) }

  pub at_last : (l : List ℕ) (i : ℕ) → i < length l → f (get_or l i 0) ≡ true → ((k : ℕ) → i + 1 ≤ k → k < length l → f (get_or l k 0) ≡ false) → Behind f l (i + 1)
  at_last l i h t e = record { within = omega arith; is = λ x. rw add-one (behind-last x l i h t (rw add-one at (none_from l (i + 1) e))) }

-- ---- One number more.

pub behind-length : (f : ℕ → Bool) (x : ℕ) (l : List ℕ) → length (behind f x l) ≡ suc (length l)
unfolding behind
behind-length f x [] = refl
behind-length f x (y ∷ l) = if_both (λ (r : List ℕ). length r ≡ suc (suc (length l))) (f y && not (any f l)) refl (ap suc (behind-length f x l))

module _ (f : ℕ → Bool) (x : ℕ) where
  pub behind_has : (l : List ℕ) → member x (behind f x l) ≡ true
  unfolding behind
  behind_has [] = member_head x []
  behind_has (y ∷ l) =
      if_both (λ (r : List ℕ). member x r ≡ true) (f y && not (any f l)) (member-tail x y (x ∷ l) (member_head x l)) (member-tail x y (behind f x l) (behind_has l))

  pub behind_keeps : (j : ℕ) (l : List ℕ) → member j l ≡ true → member j (behind f x l) ≡ true
  unfolding behind member
  behind_keeps j [] h = absurd (true≢false (sym h))
  behind_keeps j (y ∷ l) h = if_both (λ (r : List ℕ). member j r ≡ true) (f y && not (any f l)) (old (x ∷ l) (λ m. member-tail j x l m)) (old (behind f x l) (behind_keeps j l))
    where
      old : (r : List ℕ) → (member j l ≡ true → member j r ≡ true) → member j (y ∷ r) ≡ true
      old r k = ⊎_elim (λ (e : j ≡ y). subst (λ z. member z (y ∷ r) ≡ true) (sym e) (member_head y r)) (λ (m : member j l ≡ true). member-tail j y r (k m)) (member_cons j y l h)

  pub behind_from : (j : ℕ) (l : List ℕ) → member j (behind f x l) ≡ true → (j ≡ x) ⊎ (member j l ≡ true)
  unfolding behind
  behind_from j [] h = member_cons j x [] h
  behind_from j (y ∷ l) h =
      if_both (λ (r : List ℕ). member j r ≡ true → (j ≡ x) ⊎ (member j (y ∷ l) ≡ true)) (f y && not (any f l))
      (λ m. ⊎_elim (λ (e : j ≡ y). inr (rw e (member_head y l))) (λ (k : member j (x ∷ l) ≡ true). ⊎_elim (λ (e : j ≡ x). inl e) (λ (q : member j l ≡ true). inr (member-tail j y l q)) (member_cons j x l k)) (member_cons j y (x ∷ l) m))
      (λ m. ⊎_elim (λ (e : j ≡ y). inr (rw e (member_head y l))) (λ (k : member j (behind f x l) ≡ true). ⊎_elim (λ (e : j ≡ x). inl e) (λ (q : member j l ≡ true). inr (member-tail j y l q)) (behind_from j l k)) (member_cons j y (behind f x l) m))
      h
