-- Products and sums of integers, and two lists taken together.
use Rattle.std.specs.Prelude.{◌≡◌, ℤ, pos, negsuc, nat_abs, ◌+ℤ◌, ◌*ℤ◌, length, get_or}
use Rattle.std.proofs.Math.Path.{refl, ap}
use Rattle.std.proofs.Common.{sym, subst, ◌∙◌, not-suc-le-zero, le_of_suc-le-suc, zero-lt-suc, mul-div_cancel, arith}
use mathlib.Core.List.{List, [], ◌∷◌, ◌++◌, map, zip_with}
use Prim.Native.Nat.{ℕ, zero, suc, ◌+◌, ◌*◌, ◌/◌, ◌<◌, ◌∣◌}
use Rattle.std.proofs.Math.Nat.{dvd-mul_left}
use Rattle.std.specs.Int.Signed.{quot_z}
use Rattle.laws.specs.Integer.{ints, plus, minus, add_parts, plus_mul, minus_mul, abs_mul, eq_of, quot_exact}

-- ---- Products.

pub mul-add : (a x y : ℤ) → a *ℤ (x +ℤ y) ≡ (a *ℤ x) +ℤ (a *ℤ y)
mul-add a x y =
    omega
    (arith, ints, plus_mul a (x +ℤ y), minus_mul a (x +ℤ y), ap (λ k. plus a * k) (add_parts x y), ap (λ k. minus a * k) (add_parts x y), add_parts (a *ℤ x) (a *ℤ y), plus_mul a x, minus_mul a x, plus_mul a y, minus_mul a y)

pub add-mul : (a x y : ℤ) → (x +ℤ y) *ℤ a ≡ (x *ℤ a) +ℤ (y *ℤ a)
add-mul a x y =
    omega
    (arith, ints, plus_mul (x +ℤ y) a, minus_mul (x +ℤ y) a, ap (λ k. plus a * k) (add_parts x y), ap (λ k. minus a * k) (add_parts x y), add_parts (x *ℤ a) (y *ℤ a), plus_mul x a, minus_mul x a, plus_mul y a, minus_mul y a)

-- ---- What a divisor other than 0 divides has one quotient.

times_cancel : (k m n : ℕ) → m * suc k ≡ n * suc k → m ≡ n
times_cancel k m n e = sym (mul-div_cancel m (zero-lt-suc k)) ∙ ap (λ x. x / suc k) e ∙ mul-div_cancel n (zero-lt-suc k)

mul_cancel : (d x y : ℤ) → 0 < nat_abs d → x *ℤ d ≡ y *ℤ d → x ≡ y
unfolding plus minus
mul_cancel (pos zero) x y h e = absurd (omega arith)
mul_cancel (pos (suc k)) x y h e =
    eq_of
    (times_cancel k (plus x + minus y) (plus y + minus x)
    (omega (arith, ap plus e, ap minus e, plus_mul x (pos (suc k)), minus_mul x (pos (suc k)), plus_mul y (pos (suc k)), minus_mul y (pos (suc k)))))
mul_cancel (negsuc k) x y h e =
    eq_of
    (times_cancel k (plus x + minus y) (plus y + minus x)
    (omega (arith, ap plus e, ap minus e, plus_mul x (negsuc k), minus_mul x (negsuc k), plus_mul y (negsuc k), minus_mul y (negsuc k))))

pub quot_of : (q d x : ℤ) → 0 < nat_abs d → q *ℤ d ≡ x → quot_z x d ≡ q
quot_of q d x h e =
    mul_cancel d (quot_z x d) q h
    (quot_exact x d h (subst (λ k. nat_abs d ∣ k) (sym (abs_mul q d) ∙ ap nat_abs e) (dvd-mul_left (nat_abs d) (nat_abs q))) ∙ sym e)

-- ---- Two lists taken together.

module _ {A B C : Type 0} (f : A → B → C) where
  pub zip_with_length : (l : List A) (s : List B) → length s ≡ length l → length (zip_with f l s) ≡ length l
  unfolding zip_with
  zip_with_length [] s e = refl
  zip_with_length (x ∷ l) [] e = absurd (omega arith)
  zip_with_length (x ∷ l) (y ∷ s) e = ap suc (zip_with_length l s (omega arith))

  pub zip_with_at : (l : List A) (s : List B) (i : ℕ) (a : A) (b : B) (c : C) → length s ≡ length l → i < length l
      → get_or (zip_with f l s) i c ≡ f (get_or l i a) (get_or s i b)
  unfolding zip_with
  zip_with_at [] s i a b c e h = absurd (not-suc-le-zero h)
  zip_with_at (x ∷ l) [] i a b c e h = absurd (omega arith)
  zip_with_at (x ∷ l) (y ∷ s) zero a b c e h = refl
  zip_with_at (x ∷ l) (y ∷ s) (suc i) a b c e h = zip_with_at l s i a b c (omega arith) (le_of_suc-le-suc h)

  pub zip_with_append : (l l' : List A) (s s' : List B) → length s ≡ length l → zip_with f (l ++ l') (s ++ s') ≡ zip_with f l s ++ zip_with f l' s'
  unfolding zip_with
  zip_with_append [] l' [] s' e = refl
  zip_with_append [] l' (y ∷ s) s' e = absurd (omega arith)
  zip_with_append (x ∷ l) l' [] s' e = absurd (omega arith)
  zip_with_append (x ∷ l) l' (y ∷ s) s' e = ap {B = List C} (λ r. f x y ∷ r) (zip_with_append l l' s s' (omega arith))

  pub map_zip_with : {D : Type 0} (g : C → D) (l : List A) (s : List B) → map g (zip_with f l s) ≡ zip_with (λ x y. g (f x y)) l s
  unfolding zip_with
  map_zip_with g [] s = refl
  map_zip_with g (x ∷ l) [] = refl
  map_zip_with {D} g (x ∷ l) (y ∷ s) = ap {B = List D} (λ r. g (f x y) ∷ r) (map_zip_with g l s)
