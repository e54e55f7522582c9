-- Sources: where one stands, and those of two cones together.
use Rattle.std.specs.Prelude.{◌≡◌, refl, Bool, true, false, not, cond, ◌||◌, Option, Some, None, MatchOption, ℕ, suc, ◌+◌, ◌≤◌, ◌<◌, ltb, eqb, count_by, ℤ, pos, get_or, drop}
use Rattle.std.specs.List.{list_any, position_or_len}
use Rattle.std.specs.List.{position as first_place}
use Rattle.std.proofs.Common.{ap, ap₂, ◌∙◌, add-one, drop_of_length-le, length-append, drop-cons, ltb-true, ltb-false}
use Rattle.std.proofs.lemmas.List.Sums.{sum_by-cons}
use mathlib.Core.List.{List, [], ◌∷◌, ◌++◌, zip_with}
use native.Mathlib.Omega.{arith}
use Rattle.std.proofs.Math.ListN.{length}
use Rattle.laws.specs.Select.{select}
use Rattle.laws.specs.Test.{if◌then◌otherwise◌, if_both, eqb_swap}
use Rattle.rules.specs.Network.{member}
use Rattle.rules.specs.Cone.{Cone, terms}
use Rattle.rules.specs.Store.{coefficient_of}
use Rattle.rules.specs.Composition.{union_support}
use Rattle.theorems.specs.Terms.{terms_over}
use Rattle.support.specs.Rows.{position}

-- ---- where a node stands
pub position_le : (l : List ℕ) (n : ℕ) → position l n ≤ length l
unfolding position
position_le [] n = omega arith
position_le (m ∷ l) n = if_both (λ p. p ≤ suc (length l)) (eqb m n) (omega arith) (let r = position_le l n in omega arith)

found : (l : List ℕ) (n : ℕ) → position_or_len (λ m. eqb m n) l ≡ position l n
unfolding position
found [] n = refl
found (m ∷ l) n = by (eqb m n) (found l n)
  where
    by : (t : Bool) → position_or_len (λ m. eqb m n) l ≡ position l n → cond (not t) (1 + position_or_len (λ m. eqb m n) l) 0 ≡ (if t then 0 otherwise suc (position l n))
    by true e = refl
    by false e = omega arith

-- of what the library's `position` answers
pub placed : (l : List ℕ) (n : ℕ) (r : Option ℕ) → r ≡ first_place (λ m. eqb m n) l → MatchOption r (position l n ≡ length l) (λ i. (i ≡ position l n) × (i < length l))
placed l n r e = rw (e, found l n) (by (ltb (position l n) (length l)) refl)
  where
    by : (t : Bool) → ltb (position l n) (length l) ≡ t → MatchOption (cond t (Some (position l n)) None) (position l n ≡ length l) (λ i. (i ≡ position l n) × (i < length l))
    by true h = (refl, ltb-true _ _ h)
    by false h = omega (arith, ltb-false _ _ h, position_le l n)

-- ---- the right sources that are no left ones
unfoldable pub is_new : List ℕ → ℕ → Bool
is_new left n = not (member n left)

pub union_is : (left right : List ℕ) → union_support left right ≡ left ++ select (is_new left) right
unfolding union_support is_new
union_is left right = refl

pub union_length : (left right : List ℕ) → length (union_support left right) ≡ length left + length (select (is_new left) right)
union_length left right = ap length (union_is left right) ∙ length-append left (select (is_new left) right)

-- what `contains` answers
pub contained : (l : List ℕ) (n : ℕ) → list_any (λ m. eqb m n) l ≡ member n l
unfolding member
contained [] n = refl
contained (m ∷ l) n = ap₂ ◌||◌ (eqb_swap m n) (contained l n)

module _ (left right : List ℕ) (i : ℕ) (h : i < length right) where
  pub new_on : member (get_or right i 0) left ≡ false → select (is_new left) (drop i right) ≡ get_or right i 0 ∷ select (is_new left) (drop (i + 1) right)
  unfolding select is_new
  new_on e = rw (drop-cons right i 0 h, e, add-one)

  pub old_on : member (get_or right i 0) left ≡ true → select (is_new left) (drop i right) ≡ select (is_new left) (drop (i + 1) right)
  unfolding select is_new
  old_on e = rw (drop-cons right i 0 h, e, add-one)

pub new_end : (left right : List ℕ) (i : ℕ) → length right ≤ i → select (is_new left) (drop i right) ≡ []
unfolding select
new_end left right i h = rw (drop_of_length-le right {i = i} h)

-- the new ones counted
counted : (left right : List ℕ) → count_by (λ n. not (list_any (λ m. eqb m n) left)) right ≡ length (select (is_new left) right)
unfolding select is_new
counted left [] = refl
counted left (n ∷ right) = rw (sum_by-cons, contained left n) (by (member n left) (counted left right))
  where
    by : (t : Bool) → count_by (λ k. not (list_any (λ m. eqb m k) left)) right ≡ length (select (is_new left) right)
        → cond (not t) 1 0 + count_by (λ k. not (list_any (λ m. eqb m k) left)) right ≡ length (if not t then n ∷ select (is_new left) right otherwise select (is_new left) right)
    by true e = omega arith
    by false e = omega arith

pub union_count : (left right : List ℕ) (k : ℕ) → k ≡ count_by (λ n. not (list_any (λ m. eqb m n) left)) right → length left + k ≡ length (union_support left right)
union_count left right k e = omega (arith, counted left right, union_length left right)

-- ---- coefficients

pub terms_are : (c : Cone) → terms c ≡ terms_over c.coefficients c.support
unfolding terms terms_over
terms_are c = refl

pub coefficient-at : (cs : List ℤ) (ns : List ℕ) (n : ℕ) → length ns ≡ length cs → coefficient_of (terms_over cs ns) n ≡ get_or cs (position ns n) (pos 0)
unfolding coefficient_of terms_over position zip_with
coefficient-at [] [] n e = refl
coefficient-at [] (m ∷ ns) n e = absurd (omega arith)
coefficient-at (c ∷ cs) [] n e = absurd (omega arith)
coefficient-at (c ∷ cs) (m ∷ ns) n e = by (eqb m n) (coefficient-at cs ns n (omega arith))
  where
    by : (t : Bool) → coefficient_of (terms_over cs ns) n ≡ get_or cs (position ns n) (pos 0)
        → (if t then c otherwise coefficient_of (terms_over cs ns) n) ≡ get_or (c ∷ cs) (if t then 0 otherwise suc (position ns n)) (pos 0)
    by true r = refl
    by false r = r
