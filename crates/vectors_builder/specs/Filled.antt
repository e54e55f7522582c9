-- A list that was filled with numbers of a text.
use Rattle.std.specs.Prelude.{◌≡◌, ℕ, ◌+◌, ◌-◌, ◌<◌, ◌≤◌, min, List, [], ◌∷◌, ◌++◌, map, length, take, set}
use Rattle.std.proofs.Common.{refl, sym, ap, ◌∙◌, arith, append_assoc, append-nil}
use Rattle.std.proofs.Math.Seq.{take_all}
use Rattle.std.proofs.lemmas.List.{take_more_set}
use Rattle.vectors.specs.Token.{number, next_or_zero}
use Rattle.vectors.specs.Numbers.{Row}
use Rattle.vectors.specs.NumbersOrZero.{before_row, numbers_or_zero, one_less_or_zero}
use Rattle.vectors.specs.declared.Token.{Token}

-- What the numbers of a row are, and what is left of the text.
pub record Filled {A : Type 0} (f : Token → A) (r : Row) (list : List A) (rest : List ℕ) : Type 0 where
  pub list_is : list ≡ map f r.list
  pub rest_is : rest ≡ r.rest

-- A list behind its count, of which 64 numbers are read at most.
unfoldable pub numbers_of : List ℕ → Row
numbers_of s = let t = next_or_zero s in numbers_or_zero (min t.token.value 64) t.rest

-- A loop that fills a list with n numbers of the text s₀, of which it has read i up to the text s.
pub record Filling {A : Type 0} (f : Token → A) (n i : ℕ) (s₀ s : List ℕ) (l : List A) : Type 0 where
  pub list_is : take i l ++ map f (numbers_or_zero (n - i) s).list ≡ map f (numbers_or_zero n s₀).list
  pub rest_is : (numbers_or_zero (n - i) s).rest ≡ (numbers_or_zero n s₀).rest

module _ {A : Type 0} (f : Token → A) (n i : ℕ) (s₀ s : List ℕ) (l : List A) (so : Filling f n i s₀ s l) where
  pub filled_next : (r : List ℕ) (t : Token) (x : A) → i < n → length l ≡ n → number t r ≡ next_or_zero s → x ≡ f t → Filling f n (i + 1) s₀ r (set l i x)
  filled_next r t x h k e q =
      let one : numbers_or_zero (n - i) s ≡ before_row (t ∷ []) (numbers_or_zero (n - (i + 1)) r) = one_less_or_zero n i s r h t e in
      record {
        list_is =
            rw (take_more_set l i x (omega arith), append_assoc, q)
            (ap (λ (w : Row). take i l ++ map f w.list) (sym one) ∙ so.list_is);
        rest_is = ap (λ (w : Row). w.rest) (sym one) ∙ so.rest_is;
      }

  pub filled_end : length l ≡ n → n ≤ i → Filled f (numbers_or_zero n s₀) l s
  unfolding numbers_or_zero
  filled_end k h =
      let z : n - i ≡ 0 = omega arith in
      record {
        list_is = rw (← so.list_is, z, append-nil, take_all i l (omega arith)) refl;
        rest_is = rw (← so.rest_is, z) refl;
      }
