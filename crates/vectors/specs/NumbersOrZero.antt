-- Numbers of a text in a row, 0 for each that is missing.
use Rattle.std.specs.Prelude.{◌≡◌, ℕ, zero, suc, ◌+◌, ◌-◌, ◌<◌, ◌≤◌, List, [], ◌∷◌, ◌++◌, length, take, set}
use Rattle.std.proofs.Common.{refl, ◌∙◌, arith, append_assoc, append-nil, add-one}
use Rattle.std.proofs.Math.Seq.{take-suc-set, take_all}
use Rattle.vectors.specs.Token.{number, next_or_zero}
use Rattle.vectors.specs.Numbers.{Row}
use Rattle.vectors.specs.declared.Token.{Token}

abbrev pub row : List Token → List ℕ → Row
row list rest = record { list = list; rest = rest }

-- These numbers, and then those of the row.
abbrev pub before_row : List Token → Row → Row
before_row ts r = row (ts ++ r.list) r.rest

-- The next n numbers of a text, 0 for each that is missing.
unfoldable pub numbers_or_zero : ℕ → List ℕ → Row
numbers_or_zero zero s = row [] s
numbers_or_zero (suc n) s = let t = next_or_zero s in let r = numbers_or_zero n t.rest in row (t.token ∷ r.list) r.rest

-- one number of those that are left
module _ (n i : ℕ) (s r : List ℕ) (h : i < n) where
  pub one_less_or_zero : (t : Token) → number t r ≡ next_or_zero s → numbers_or_zero (n - i) s ≡ before_row (t ∷ []) (numbers_or_zero (n - (i + 1)) r)
  unfolding numbers_or_zero
  one_less_or_zero t e =
      let k : n - i ≡ suc (n - (i + 1)) = omega arith in
      rw (k, ← e)

-- A loop that reads the numbers of the text s₀ into a list, of which it has read i up to the text s.
module _ (n i : ℕ) (s₀ s : List ℕ) (l : List Token) (so : numbers_or_zero n s₀ ≡ before_row (take i l) (numbers_or_zero (n - i) s)) where
  pub fill_or_zero_next : (r : List ℕ) (t : Token) → i < n → length l ≡ n → number t r ≡ next_or_zero s → numbers_or_zero n s₀ ≡ before_row (take (i + 1) (set l i t)) (numbers_or_zero (n - (i + 1)) r)
  fill_or_zero_next r t h k e = so ∙ rw (one_less_or_zero n i s r h t e, ← append_assoc, add-one, take-suc-set l i t (omega arith)) refl

  pub fill_or_zero_end : length l ≡ n → n ≤ i → row l s ≡ numbers_or_zero n s₀
  unfolding numbers_or_zero
  fill_or_zero_end k h =
      let z : n - i ≡ 0 = omega arith in
      rw (so, z, append-nil, take_all i l (omega arith)) refl
