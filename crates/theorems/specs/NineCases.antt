-- The nine cases of a pair of known entries (document 02, S-4): the sums that a line names are exactly those that some bits for the unknowns give.
use Rattle.std.specs.Prelude.{◌≡◌, Bool, true, ◌&&◌, ◌||◌, List, [], ◌∷◌, ◌↔◌, T, eqb}
use Rattle.std.proofs.Math.Path.{refl}
use Rattle.std.proofs.Common.{sym, ap, ◌∙◌, eq-eqb, eqb-true}
use Rattle.std.proofs.Math.Bool.{false}
use Rattle.std.proofs.Math.Logic.{⊎_elim}
use Prim.Native.Nat.{ℕ, zero, suc, ◌+◌, ◌≤◌}
use native.Mathlib.Omega.{arith}
use Rattle.laws.specs.Select.{select, any}
use Rattle.laws.specs.Test.{if◌then◌otherwise◌, T-is, is_T, or_cases, or_by_right, both, both_right}
use Rattle.rules.specs.declared.Entry.{Entry}
use Rattle.rules.specs.declared.Entry.TheVariants.{Zero, One, Unknown}
use Rattle.rules.specs.Builder.{remains}
use Rattle.rules.specs.Computed.NineCases.{bits_of, given, computed}

-- A bit that an entry can have: its own, or any where it is unknown.
abbrev pub BitOf : Entry → ℕ → Type 0
BitOf Zero b = b ≡ 0
BitOf One b = b ≡ 1
BitOf Unknown b = b ≤ 1

-- Bits that two entries can have and that give the sum s.
pub record Gives (s : ℕ) (x y : Entry) : Type 0 where
  pub left : ℕ
  pub right : ℕ
  pub left_bit : BitOf x left
  pub right_bit : BitOf y right
  pub sum : s ≡ left + right

-- ---- a test at one of an entry's bits
or-none : (a : Bool) → (a || false) ≡ true → a ≡ true
or-none true e = refl
or-none false e = e

or_by_left : (a b : Bool) → a ≡ true → (a || b) ≡ true
or_by_left a b e = rw e

module _ (f : ℕ → Bool) where
  some_bit : (x : Entry) → any f (bits_of x) ≡ true → (a : ℕ) × BitOf x a × (f a ≡ true)
  unfolding bits_of any
  some_bit Zero e = (0, refl, or-none (f 0) e)
  some_bit One e = (1, refl, or-none (f 1) e)
  some_bit Unknown e =
      ⊎_elim (λ (z : f 0 ≡ true). (0, omega arith, z)) (λ (o : (f 1 || false) ≡ true). (1, omega arith, or-none (f 1) o)) (or_cases (f 0) (f 1 || false) e)

  at-bit : (x : Entry) (a : ℕ) → BitOf x a → f a ≡ true → any f (bits_of x) ≡ true
  unfolding bits_of any
  at-bit Zero a is e = or_by_left (f 0) false (ap f (sym is) ∙ e)
  at-bit One a is e = or_by_left (f 1) false (ap f (sym is) ∙ e)
  at-bit Unknown zero h e = or_by_left (f 0) (f 1 || false) e
  at-bit Unknown (suc zero) h e = or_by_right (f 0) (f 1 || false) (or_by_left (f 1) false e)
  at-bit Unknown (suc (suc a)) h e = absurd (omega arith)

bit_most : (x : Entry) (a : ℕ) → BitOf x a → a ≤ 1
bit_most Zero a is = omega arith
bit_most One a is = omega arith
bit_most Unknown a h = h

-- ---- a number among those that are selected
either : (b t r u w : Bool) → (t ≡ true → w ≡ b) → r ≡ (u && w) → (if b then t || r otherwise r) ≡ ((t || u) && w)
either true true r u w f e = sym (f refl)
either true false r u w f e = e
either false true r u w f e = e ∙ rw (f refl) (none u)
  where
    none : (u : Bool) → (u && false) ≡ false
    none true = refl
    none false = refl
either false false r u w f e = e

among_selected : (s : ℕ) (f : ℕ → Bool) (l : List ℕ) → any (eqb s) (select f l) ≡ (any (eqb s) l && f s)
unfolding any select
among_selected s f [] = refl
among_selected s f (x ∷ l) =
    by (f x) ∙ either (f x) (eqb s x) (any (eqb s) (select f l)) (any (eqb s) l) (f s) (λ e. ap f (eqb-true s x e)) (among_selected s f l)
  where
    by : (b : Bool) → any (eqb s) (if b then x ∷ select f l otherwise select f l) ≡ (if b then eqb s x || any (eqb s) (select f l) otherwise any (eqb s) (select f l))
    by true = refl
    by false = refl

at_most_two : (s : ℕ) → s ≤ 2 → any (eqb s) (0 ∷ 1 ∷ 2 ∷ []) ≡ true
unfolding any
at_most_two zero h = refl
at_most_two (suc zero) h = refl
at_most_two (suc (suc zero)) h = refl
at_most_two (suc (suc (suc s))) h = absurd (omega arith)

-- The sums that remain for a pair are exactly those that some bits for its unknowns give.
pub nine-cases : (s : ℕ) (x y : Entry) → T (remains s x y) ↔ Gives s x y
unfolding remains given
nine-cases s x y = (λ t. found (T-is (remains s x y) t), λ g. is_T (remains s x y) (holds g))
  where
    sums : ℕ → Bool
    sums n = any (λ a. any (λ b. eqb n (a + b)) (bits_of y)) (bits_of x)

    named : remains s x y ≡ (any (eqb s) (0 ∷ 1 ∷ 2 ∷ []) && sums s)
    named = ap (λ (l : List ℕ). any (eqb s) l) (computed x y) ∙ among_selected s sums (0 ∷ 1 ∷ 2 ∷ [])

    found : remains s x y ≡ true → Gives s x y
    found e =
        let u = some_bit (λ a. any (λ b. eqb s (a + b)) (bits_of y)) x (both_right (any (eqb s) (0 ∷ 1 ∷ 2 ∷ [])) (sums s) (sym named ∙ e)) in
        let w = some_bit (λ b. eqb s (u.0 + b)) y u.2 in
        record { left = u.0; right = w.0; left_bit = u.1; right_bit = w.1; sum = eqb-true s (u.0 + w.0) w.2 }

    holds : Gives s x y → remains s x y ≡ true
    holds g =
        let a = bit_most x g.left g.left_bit in
        let b = bit_most y g.right g.right_bit in
        let c = g.sum in
        named ∙ both (any (eqb s) (0 ∷ 1 ∷ 2 ∷ [])) (sums s) (at_most_two s (omega arith))
        (at-bit (λ a. any (λ b. eqb s (a + b)) (bits_of y)) x g.left g.left_bit
        (at-bit (λ b. eqb s (g.left + b)) y g.right g.right_bit (eq-eqb s (g.left + g.right) g.sum)))
