-- Lists of numbers: members, places, the numbers below n, and one put behind others.
use Rattle.std.specs.Prelude.{◌≡◌, Bool, ◌&&◌, ◌||◌, ℕ, suc, ◌<◌, length, get_or}
use Rattle.std.proofs.Math.Path.{refl, ap}
use Rattle.std.proofs.Common.{sym, ◌∙◌, true≢false, ⊎_elim, arith, eq-eqb, ne_eqb}
use Rattle.std.proofs.Math.Bool.{true, false}
use mathlib.Core.List.{List, [], ◌∷◌, ◌++◌}
use Rattle.laws.specs.Select.{any, any-right}
use Rattle.laws.specs.Tabulate.{tabulate-length, tabulate-at, numbers}
use Rattle.laws.specs.Test.{if◌then◌otherwise◌, decide, neither_left, neither_right, eq-or-ne}
use Rattle.rules.specs.Network.{member}
use Rattle.rules.specs.Regroup.{behind, place_in}
use Rattle.theorems.specs.Members.{member_cons, no_member, below_numbers}

-- ---- Members.

-- not a member, by what a member would give
pub not_member : (j : ℕ) (l : List ℕ) → (member j l ≡ true → ⊥) → member j l ≡ false
not_member j l f = ⊎_elim (λ (h : member j l ≡ true). absurd (f h)) (λ h. h) (decide (member j l))

-- a member that is not the first is among the others
member-other : (j i : ℕ) (l : List ℕ) → (i ≡ j → ⊥) → member j (i ∷ l) ≡ true → member j l ≡ true
member-other j i l n h = ⊎_elim (λ (e : j ≡ i). absurd (n (sym e))) (λ (e : member j l ≡ true). e) (member_cons j i l h)

-- ---- Places.

pub place_here : (i j : ℕ) (l : List ℕ) → i ≡ j → place_in (i ∷ l) j ≡ 0
unfolding place_in
place_here i j l e = rw (eq-eqb i j e)

pub place_later : (i j : ℕ) (l : List ℕ) → (i ≡ j → ⊥) → place_in (i ∷ l) j ≡ suc (place_in l j)
unfolding place_in
place_later i j l n = rw (ne_eqb i j n)

pub place_within : (l : List ℕ) (j : ℕ) → member j l ≡ true → place_in l j < length l
place_within [] j h = absurd (no_member j h)
place_within (i ∷ l) j h =
    ⊎_elim (λ (e : i ≡ j). omega (arith, place_here i j l e))
    (λ (n : i ≡ j → ⊥). omega (arith, place_later i j l n, place_within l j (member-other j i l n h)))
    (eq-or-ne i j)

pub place_at : (l : List ℕ) (j d : ℕ) → member j l ≡ true → get_or l (place_in l j) d ≡ j
place_at [] j d h = absurd (no_member j h)
place_at (i ∷ l) j d h =
    ⊎_elim (λ (e : i ≡ j). ap (λ k. get_or (i ∷ l) k d) (place_here i j l e) ∙ e)
    (λ (n : i ≡ j → ⊥). ap (λ k. get_or (i ∷ l) k d) (place_later i j l n) ∙ place_at l j d (member-other j i l n h))
    (eq-or-ne i j)

-- the place does not change with more numbers behind
pub place_front : (a b : List ℕ) (j : ℕ) → member j a ≡ true → place_in (a ++ b) j ≡ place_in a j
place_front [] b j h = absurd (no_member j h)
place_front (i ∷ a) b j h =
    ⊎_elim (λ (e : i ≡ j). place_here i j (a ++ b) e ∙ sym (place_here i j a e))
    (λ (n : i ≡ j → ⊥). place_later i j (a ++ b) n ∙ ap suc (place_front a b j (member-other j i a n h)) ∙ sym (place_later i j a n))
    (eq-or-ne i j)

-- members with one place are one
pub place_same : (l : List ℕ) (i j : ℕ) → member i l ≡ true → member j l ≡ true → place_in l i ≡ place_in l j → i ≡ j
place_same l i j h k e = sym (place_at l i 0 h) ∙ ap (λ p. get_or l p 0) e ∙ place_at l j 0 k

-- ---- The numbers below n.

pub place_number : (n j : ℕ) → j < n → place_in (numbers n) j ≡ j
place_number n j h =
    let m = below_numbers n j h in
    let l = place_within (numbers n) j m in
    sym (tabulate-at n (λ k. k) (place_in (numbers n) j) 0 (omega (arith, tabulate-length n (λ k. k)))) ∙ place_at (numbers n) j 0 m

-- ---- One put behind others.

module _ {A : Type 0} (f : A → Bool) (x : A) where
  pub behind_none : (l : List A) → any f l ≡ false → behind f x l ≡ l ++ (x ∷ [])
  unfolding behind any
  behind_none [] e = refl
  behind_none (y ∷ l) e = rw (neither_left (f y) (any f l) e) (ap {B = List A} (λ r. y ∷ r) (behind_none l (neither_right (f y) (any f l) e)))

  behind_later : (y : A) (l : List A) → any f l ≡ true → behind f x (y ∷ l) ≡ y ∷ behind f x l
  unfolding behind
  behind_later y l e = rw e (by (f y))
    where
      by : (b : Bool) → (if b && false then y ∷ x ∷ l otherwise y ∷ behind f x l) ≡ y ∷ behind f x l
      by true = refl
      by false = refl

  -- x stands behind the last one at which f holds
  pub record Put (l : List A) : Type 0 where
    pub front : List A
    pub at : A
    pub back : List A
    pub was : l ≡ front ++ (at ∷ back)
    pub holds : f at ≡ true
    pub last : any f back ≡ false
    pub is : behind f x l ≡ front ++ (at ∷ x ∷ back)

  pub behind_some : (l : List A) → any f l ≡ true → Put l
  unfolding any behind
  behind_some [] e = absurd (true≢false (sym e))
  behind_some (y ∷ l) e = by (any f l) refl (behind_some l) (f y) refl e
    where
      by : (b : Bool) → any f l ≡ b → (any f l ≡ true → Put l) → (c : Bool) → f y ≡ c → (f y || any f l) ≡ true → Put (y ∷ l)
      by true g r c h e =
          let p = r g in
          record {
            front = y ∷ p.front;
            at = p.at;
            back = p.back;
            was = ap {B = List A} (λ l. y ∷ l) p.was;
            holds = p.holds;
            last = p.last;
            is = behind_later y l g ∙ ap {B = List A} (λ r. y ∷ r) p.is;
          }
      by false g r true h e = record { front = []; at = y; back = l; was = refl; holds = h; last = g; is = rw (g, h) }
      by false g r false h e = absurd (true≢false (sym e ∙ rw (g, h)))

  -- behind the last element, if f holds at it
  pub behind-last : (l : List A) (y : A) → f y ≡ true → behind f x (l ++ (y ∷ [])) ≡ l ++ (y ∷ x ∷ [])
  unfolding behind any
  behind-last [] y e = rw e
  behind-last (z ∷ l) y e = behind_later z (l ++ (y ∷ [])) (any-right f l (y ∷ []) (rw e)) ∙ ap {B = List A} (λ r. z ∷ r) (behind-last l y e)
