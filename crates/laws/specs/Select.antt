-- The elements of a list at which a test holds.
use Rattle.std.specs.Prelude.{◌≡◌, Bool, ◌&&◌, ◌||◌, ◌⊎◌, get_or, All}
use Rattle.std.proofs.Math.Path.{refl, ap}
use Rattle.std.proofs.Common.{sym, not-suc-le-zero, le_of_suc-le-suc}
use Rattle.std.proofs.Math.Bool.{true, false, not, true≢false}
use mathlib.Core.List.{List, [], ◌∷◌, ◌++◌, map}
use Rattle.std.proofs.Math.Logic.{inl, inr, ⊎_elim}
use Rattle.std.proofs.Math.Option
use Rattle.std.proofs.Math.Option.{Option, none, some}
use Prim.Native.Nat.{ℕ, zero, suc, ◌+◌, ◌≤◌, ◌<◌, zero-le}
use native.Mathlib.Omega.{arith}
use Rattle.std.proofs.Math.ListN.{length}
use Rattle.std.proofs.lemmas.List.Elements.{All-head, All-tail}
use Rattle.laws.specs.Test.{if◌then◌otherwise◌, both, both_left, both_right, or_by_right, or_cases}

module _ {ℓ} {A : Type ℓ} where
  unfoldable pub select : (A → Bool) → List A → List A
  select f [] = []
  select f (x ∷ l) = let r = select f l in if f x then x ∷ r otherwise r

  -- at one of them, at all of them
  unfoldable pub any : (A → Bool) → List A → Bool
  any f [] = false
  any f (x ∷ l) = let r = any f l in f x || r

  unfoldable pub all : (A → Bool) → List A → Bool
  all f [] = true
  all f (x ∷ l) = let r = all f l in f x && r

  -- the first of them
  unfoldable pub first_of : (A → Bool) → List A → Option A
  first_of f [] = none
  first_of f (x ∷ l) = let r = first_of f l in if f x then some x otherwise r

module _ {A : Type 0} where
  pub all-at : (f : A → Bool) (l : List A) (d : A) → all f l ≡ true → (i : ℕ) → i < length l → f (get_or l i d) ≡ true
  unfolding all
  all-at f [] d e i h = absurd (not-suc-le-zero h)
  all-at f (x ∷ l) d e zero h = both_left (f x) (all f l) e
  all-at f (x ∷ l) d e (suc i) h = all-at f l d (both_right (f x) (all f l) e) i (le_of_suc-le-suc h)

  pub all_append : (f : A → Bool) (s t : List A) → all f s ≡ true → all f t ≡ true → all f (s ++ t) ≡ true
  unfolding all
  all_append f [] t h k = k
  all_append f (x ∷ s) t h k = both (f x) (all f (s ++ t)) (both_left (f x) (all f s) h) (all_append f s t (both_right (f x) (all f s) h) k)

  pub selected_holds : (f : A → Bool) (d : A) (l : List A) (i : ℕ) → i < length (select f l) → f (get_or (select f l) i d) ≡ true
  unfolding select
  selected_holds f d [] i h = absurd (not-suc-le-zero h)
  selected_holds f d (x ∷ l) i h = by (f x) refl i h (selected_holds f d l)
    where
      by : (b : Bool) → f x ≡ b → (i : ℕ) → i < length (if b then x ∷ select f l otherwise select f l)
          → ((j : ℕ) → j < length (select f l) → f (get_or (select f l) j d) ≡ true)
          → f (get_or (if b then x ∷ select f l otherwise select f l) i d) ≡ true
      by true q zero h r = q
      by true q (suc i) h r = r i (le_of_suc-le-suc h)
      by false q i h r = r i h

  pub select_le : (f : A → Bool) (l : List A) → length (select f l) ≤ length l
  unfolding select
  select_le f [] = zero-le
  select_le f (x ∷ l) = by (f x) (select_le f l)
    where
      by : (t : Bool) → length (select f l) ≤ length l → length (if t then x ∷ select f l otherwise select f l) ≤ suc (length l)
      by true r = omega arith
      by false r = omega arith

  pub select_split : (f : A → Bool) (l : List A) → length l ≡ length (select f l) + length (select (λ x. not (f x)) l)
  unfolding select
  select_split f [] = refl
  select_split f (x ∷ l) = by (f x) (select_split f l)
    where
      by : (a : Bool) → length l ≡ length (select f l) + length (select (λ x. not (f x)) l)
          → suc (length l) ≡ length (if a then x ∷ select f l otherwise select f l) + length (if not a then x ∷ select (λ x. not (f x)) l otherwise select (λ x. not (f x)) l)
      by true r = omega arith
      by false r = omega arith

  pub select-append : (f : A → Bool) (s t : List A) → select f (s ++ t) ≡ select f s ++ select f t
  unfolding select
  select-append f [] t = refl
  select-append f (x ∷ s) t = by (f x) (select-append f s t)
    where
      by : (b : Bool) → select f (s ++ t) ≡ select f s ++ select f t
          → (if b then x ∷ select f (s ++ t) otherwise select f (s ++ t)) ≡ (if b then x ∷ select f s otherwise select f s) ++ select f t
      by true r = ap {B = List A} (λ l. x ∷ l) r
      by false r = r

  pub select_whole : (f : A → Bool) (l : List A) → All (λ x. f x ≡ true) l → select f l ≡ l
  unfolding select
  select_whole f [] h = refl
  select_whole f (x ∷ l) h =
      rw (All-head (λ x. f x ≡ true) x l h) (ap {B = List A} (λ r. x ∷ r) (select_whole f l (All-tail (λ x. f x ≡ true) x l h)))

  pub select_nil : (f : A → Bool) (l : List A) → All (λ x. f x ≡ false) l → select f l ≡ []
  unfolding select
  select_nil f [] h = refl
  select_nil f (x ∷ l) h = rw (All-head (λ x. f x ≡ false) x l h) (select_nil f l (All-tail (λ x. f x ≡ false) x l h))

module _ {A : Type 0} (f g : A → Bool) where
  pub select_or : (l : List A) → length (select (λ x. f x || g x) l) ≤ length (select f l) + length (select g l)
  unfolding select
  select_or [] = zero-le
  select_or (x ∷ l) = by (f x) (g x) (select_or l)
    where
      by : (a b : Bool) → length (select (λ x. f x || g x) l) ≤ length (select f l) + length (select g l)
          → length (if a || b then x ∷ select (λ x. f x || g x) l otherwise select (λ x. f x || g x) l)
          ≤ length (if a then x ∷ select f l otherwise select f l) + length (if b then x ∷ select g l otherwise select g l)
      by true true r = omega arith
      by true false r = omega arith
      by false true r = omega arith
      by false false r = r

-- ---- The first of two lists, and of a list of images.

unfoldable pub or_else : {A : Type 0} → Option A → Option A → Option A
or_else none r = r
or_else (some x) r = some x

pub first-append : {A : Type 0} (f : A → Bool) (s t : List A) → first_of f (s ++ t) ≡ or_else (first_of f s) (first_of f t)
unfolding first_of or_else
first-append f [] t = refl
first-append f (x ∷ s) t = by (f x) (first-append f s t)
  where
    by : (b : Bool) → first_of f (s ++ t) ≡ or_else (first_of f s) (first_of f t)
        → (if b then some x otherwise first_of f (s ++ t)) ≡ or_else (if b then some x otherwise first_of f s) (first_of f t)
    by true e = refl
    by false e = e

pub first-map : {A B : Type 0} (f : B → Bool) (g : A → B) (l : List A) → first_of f (map g l) ≡ Option.map g (first_of (λ x. f (g x)) l)
unfolding first_of
first-map f g [] = refl
first-map f g (x ∷ l) = by (f (g x)) (first-map f g l)
  where
    by : (b : Bool) → first_of f (map g l) ≡ Option.map g (first_of (λ x. f (g x)) l)
        → (if b then some (g x) otherwise first_of f (map g l)) ≡ Option.map g (if b then some x otherwise first_of (λ x. f (g x)) l)
    by true e = refl
    by false e = e

-- ---- At one of them.

module _ {A : Type 0} (f : A → Bool) where
  pub any_none : any f [] ≡ true → ⊥
  unfolding any
  any_none e = true≢false (sym e)

  pub any-one : (x : A) → any f (x ∷ []) ≡ true → f x ≡ true
  unfolding any
  any-one x e = ⊎_elim (λ (h : f x ≡ true). h) (λ (h : false ≡ true). absurd (true≢false (sym h))) (or_cases (f x) false e)

  pub any_left : (a b : List A) → any f a ≡ true → any f (a ++ b) ≡ true
  unfolding any
  any_left [] b e = absurd (true≢false (sym e))
  any_left (x ∷ a) b e = by (f x) (any_left a b) e
    where
      by : (c : Bool) → (any f a ≡ true → any f (a ++ b) ≡ true) → (c || any f a) ≡ true → (c || any f (a ++ b)) ≡ true
      by true r e = refl
      by false r e = r e

  pub any-right : (a b : List A) → any f b ≡ true → any f (a ++ b) ≡ true
  unfolding any
  any-right [] b e = e
  any-right (x ∷ a) b e = or_by_right (f x) (any f (a ++ b)) (any-right a b e)

  pub any-either : (a b : List A) → any f (a ++ b) ≡ true → (any f a ≡ true) ⊎ (any f b ≡ true)
  unfolding any
  any-either [] b e = inr e
  any-either (x ∷ a) b e = by (f x) (any-either a b) e
    where
      by : (c : Bool) → (any f (a ++ b) ≡ true → (any f a ≡ true) ⊎ (any f b ≡ true)) → (c || any f (a ++ b)) ≡ true → ((c || any f a) ≡ true) ⊎ (any f b ≡ true)
      by true r e = inl refl
      by false r e = r e

  pub any_append : (a b : List A) → any f (a ++ b) ≡ (any f a || any f b)
  unfolding any
  any_append [] b = refl
  any_append (x ∷ a) b = by (f x) (any_append a b)
    where
      by : (c : Bool) → any f (a ++ b) ≡ (any f a || any f b) → (c || any f (a ++ b)) ≡ ((c || any f a) || any f b)
      by true r = refl
      by false r = r

  pub any_false : (l : List A) → All (λ x. f x ≡ false) l → any f l ≡ false
  unfolding any
  any_false [] h = refl
  any_false (x ∷ l) h = rw (All-head (λ x. f x ≡ false) x l h) (any_false l (All-tail (λ x. f x ≡ false) x l h))

  -- by its number
  pub any_at : (l : List A) (d : A) (i : ℕ) → i < length l → f (get_or l i d) ≡ true → any f l ≡ true
  unfolding any
  any_at [] d i h e = absurd (not-suc-le-zero h)
  any_at (x ∷ l) d zero h e = rw e
  any_at (x ∷ l) d (suc i) h e = or_by_right (f x) (any f l) (any_at l d i (le_of_suc-le-suc h) e)

  pub any_found : (l : List A) (d : A) → any f l ≡ true → (i : ℕ) × (i < length l) × (f (get_or l i d) ≡ true)
  unfolding any
  any_found [] d e = absurd (true≢false (sym e))
  any_found (x ∷ l) d e = by (f x) refl e (any_found l d)
    where
      by : (b : Bool) → f x ≡ b → (b || any f l) ≡ true → (any f l ≡ true → (i : ℕ) × (i < length l) × (f (get_or l i d) ≡ true)) → (i : ℕ) × (i < suc (length l)) × (f (get_or (x ∷ l) i d) ≡ true)
      by true q e ih = (0, omega arith, q)
      by false q e ih = let r = ih e in (suc r.0, let h = r.1 in omega arith, r.2)
