-- Numbers of a text in a row.
use Rattle.std.specs.Prelude.{◌≡◌, ℕ, zero, suc, ◌+◌, ◌-◌, ◌<◌, ◌≤◌, List, [], ◌∷◌, ◌++◌, length, take, set, Option, None, Some}
use Rattle.std.proofs.Common.{refl, ◌∙◌, arith, append_assoc, append-nil, add-one}
use Rattle.std.proofs.Math.Seq.{take-suc-set, take_all}
use Rattle.vectors.specs.Token.{told, next_token}
use Rattle.vectors.specs.declared.Token.{Token}

-- Numbers, and what is left of the text.
pub record Row : Type 0 where
  pub list : List Token
  pub rest : List ℕ

-- These numbers, and then those of the row, if there is one.
abbrev pub before : List Token → Option Row → Option Row
before ts None = None
before ts (Some r) = Some (record { list = ts ++ r.list; rest = r.rest })

abbrev pub then_row : Option Token → Option Row → Option Row
then_row None r = None
then_row (Some t) r = before (t ∷ []) r

-- The next n numbers of a text, if there are as many.
unfoldable pub numbers : ℕ → List ℕ → Option Row
numbers zero s = Some (record { list = []; rest = s })
numbers (suc n) s = let t = next_token s in let r = numbers n t.rest in then_row t.token r

-- A list with a row's numbers, read up to what is left; or there was no row.
abbrev pub Filled : Option Row → Option (Unit {0}) → List Token → List ℕ → Type 0
Filled None r list rest = r ≡ None
Filled (Some row) r list rest = (r ≡ Some tt) × (list ≡ row.list) × (rest ≡ row.rest)

before_before : (ts us : List Token) (r : Option Row) → before ts (before us r) ≡ before (ts ++ us) r
before_before ts us None = refl
before_before ts us (Some r) = rw append_assoc

-- one number of those that are left
module _ (n i : ℕ) (s r : List ℕ) (h : i < n) where
  one_less : (a : Option Token) → told a r ≡ next_token s → numbers (n - i) s ≡ then_row a (numbers (n - (i + 1)) r)
  unfolding numbers
  one_less a e =
      let k : n - i ≡ suc (n - (i + 1)) = omega arith in
      rw (k, ← e)

-- A loop that reads the numbers of the text s₀ into a list, of which it has read i up to the text s.
module _ (n i : ℕ) (s₀ s : List ℕ) (l : List Token) (so : numbers n s₀ ≡ before (take i l) (numbers (n - i) s)) where
  pub fill_stops : (r : List ℕ) → i < n → told None r ≡ next_token s → numbers n s₀ ≡ None
  fill_stops r h e = so ∙ rw (one_less n i s r h None e) refl

  pub fill_next : (r : List ℕ) (t : Token) → i < n → length l ≡ n → told (Some t) r ≡ next_token s → numbers n s₀ ≡ before (take (i + 1) (set l i t)) (numbers (n - (i + 1)) r)
  fill_next r t h k e = so ∙ rw (one_less n i s r h (Some t) e, before_before, add-one, take-suc-set l i t (omega arith)) refl

  pub fill_end : length l ≡ n → n ≤ i → Filled (numbers n s₀) (Some tt) l s
  unfolding numbers
  fill_end k h =
      let z : n - i ≡ 0 = omega arith in
      rw (so, z) (refl, rw (append-nil, take_all i l (omega arith)) refl, refl)
