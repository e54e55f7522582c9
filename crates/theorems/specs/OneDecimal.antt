-- A number has only one way to be written, so that numbers of any length are compared by their digits.
use Rattle.std.specs.Prelude.{◌≡◌, refl, true, List, [], ◌∷◌, ℕ, suc, ◌+◌, ◌*◌, ◌-◌, ◌<◌, ◌≤◌, leb, length}
use Rattle.std.proofs.Common.{sym, ap₂, ◌∙◌, ⊎_elim, not-suc-le-zero, le_of_suc-le-suc, arith, ne_eqb, leb→le}
use Rattle.std.proofs.Math.Bool.{and-false}
use Rattle.std.proofs.lemmas.Bool.{false≢true}
use Rattle.laws.specs.Test.{lt_or_le, and_left, and_right, is_T}
use Rattle.rules.specs.Form.{is_number, is_digit, value_from}
use Rattle.rules.specs.Writing.{digits}
use Rattle.theorems.specs.Decimals.{AllOf, digits_value, all_digits, digits_number}

digit_range : (b : ℕ) → is_digit b ≡ true → (48 ≤ b) × (b ≤ 57)
unfolding is_digit
digit_range b e =
    let t = is_T _ e in
    (leb→le 48 b (and_left (leb 48 b) (leb b 57) t), leb→le b 57 (and_right (leb 48 b) (leb b 57) t))

grows : (y : ℕ) (u : List ℕ) → y ≤ value_from y u
unfolding value_from
grows y [] = omega arith
grows y (c ∷ u) = let h = grows (10 * y + (c - 48)) u in omega arith

less : (x y : ℕ) (w u : List ℕ) → x < y → length w ≤ length u → AllOf is_digit w → value_from x w < value_from y u
unfolding value_from AllOf
less x y [] u h k d = let g = grows y u in omega arith
less x y (b ∷ w) [] h k d = absurd (not-suc-le-zero k)
less x y (b ∷ w) (c ∷ u) h k d = let r = digit_range b d.0 in less (10 * x + (b - 48)) (10 * y + (c - 48)) w u (omega arith) (le_of_suc-le-suc k) d.1

alike : (x y : ℕ) (w u : List ℕ) → length w ≡ length u → AllOf is_digit w → AllOf is_digit u → value_from x w ≡ value_from y u → (x ≡ y) × (w ≡ u)
unfolding value_from AllOf
alike x y [] [] k d f e = (e, refl)
alike x y [] (c ∷ u) k d f e = absurd (omega arith)
alike x y (b ∷ w) [] k d f e = absurd (omega arith)
alike x y (b ∷ w) (c ∷ u) k d f e =
    let r = alike (10 * x + (b - 48)) (10 * y + (c - 48)) w u (omega arith) d.1 f.1 e in
    let q = r.0 in
    let i = digit_range b d.0 in
    let j = digit_range c f.0 in
    (omega arith, ap₂ {C = List ℕ} (λ n t. n ∷ t) (omega arith) r.1)

pub some_digit : (w : List ℕ) → is_number w ≡ true → 1 ≤ length w
unfolding is_number
some_digit [] g = absurd (false≢true g)
some_digit (b ∷ w) g = omega arith

no_leading_zero : (b c : ℕ) (w : List ℕ) → is_number (b ∷ c ∷ w) ≡ true → b ≡ 48 → ⊥
unfolding is_number
no_leading_zero b c w g e =
    let n : suc (suc (length w)) ≡ 1 → ⊥ = λ q. omega arith in
    false≢true (sym (rw (ne_eqb (suc (suc (length w))) 1 n, e, and-false (leb 1 (suc (suc (length w)))))) ∙ g)

longer : (w u : List ℕ) → length w < length u → AllOf is_digit w → is_number w ≡ true → AllOf is_digit u → is_number u ≡ true → value_from 0 w ≡ value_from 0 u → ⊥
unfolding value_from AllOf
longer w [] h d g f k e = not-suc-le-zero h
longer w (c ∷ []) h d g f k e = let n = some_digit w g in omega arith
longer w (c ∷ b ∷ u) h d g f k e =
    let lead = no_leading_zero c b u k in
    let r = digit_range c f.0 in
    let n : 0 < 10 * 0 + (c - 48) = omega arith in
    let l = less 0 (10 * 0 + (c - 48)) w (b ∷ u) n (le_of_suc-le-suc h) d in
    omega arith

pub same_digits : (w u : List ℕ) → AllOf is_digit w → is_number w ≡ true → AllOf is_digit u → is_number u ≡ true → value_from 0 w ≡ value_from 0 u → w ≡ u
same_digits w u d g f k e =
    ⊎_elim (λ (h : length w < length u). absurd (longer w u h d g f k e))
    (λ (h : length u ≤ length w).
    ⊎_elim (λ (l : length u < length w). absurd (longer u w l f k d g (sym e))) (λ (l : length w ≤ length u). (alike 0 0 w u (omega arith) d f e).1)
    (lt_or_le (length u) (length w)))
    (lt_or_le (length w) (length u))

pub digits-back : (w : List ℕ) → AllOf is_digit w → is_number w ≡ true → w ≡ digits (value_from 0 w)
digits-back w d g =
    same_digits w (digits (value_from 0 w)) d g (all_digits (value_from 0 w)) (digits_number (value_from 0 w)) (sym (digits_value (value_from 0 w)))
