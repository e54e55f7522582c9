-- Integers read as a difference of two natural numbers, so that `omega` decides linear facts of them.
use Rattle.std.specs.Prelude.{◌≡◌, refl, Bool, true, false, not, cond, ◌&&◌, ℕ, zero, suc, ◌+◌, ◌*◌, ◌-◌, ◌/◌, ◌%◌, ◌<◌, ◌≤◌, ◌^◌, min, T, eqb, ltb, ℤ, pos, negsuc, neg_ℤ, nat_abs, ◌+ℤ◌, ◌-ℤ◌, ◌*ℤ◌, ◌≤ℤ◌, ◌<ℤ◌}
use Rattle.std.proofs.Common.{sym, ap, ◌∙◌, subst, ⊎_elim, arith, eq-eqb, ne_eqb, ltb→lt, nltb→le, lt→ltb, le→leb, leb→le, to_z-of_z}
use Rattle.std.specs.Int.{◌∣◌, Width, w64}
use Rattle.std.proofs.Math.IntN.{sub_ℕ, neg_ℤ-neg_ℤ}
use Rattle.std.specs.Int.Signed.{le_z, lt_z, mag, quot_z, rem_z, non_neg}
use mir.Val.{SFits, hbits, to_z, of_z}
use Rattle.laws.specs.Test.{both_left, both_right, eq-or-ne, T-is, T-not_is}
use Rattle.std.proofs.Math.Nat as N

-- z is plus z - minus z, and one of the two is 0
unfoldable pub plus : ℤ → ℕ
plus (pos a) = a
plus (negsuc a) = 0

unfoldable pub minus : ℤ → ℕ
minus (pos a) = 0
minus (negsuc a) = suc a

pub one_part_zero : (z : ℤ) → min (plus z) (minus z) ≡ 0
unfolding plus minus
one_part_zero (pos a) = omega arith
one_part_zero (negsuc a) = omega arith

pub plus_neg : (z : ℤ) → plus (neg_ℤ z) ≡ minus z
unfolding plus minus
plus_neg (pos zero) = refl
plus_neg (pos (suc a)) = refl
plus_neg (negsuc a) = refl

pub minus_neg : (z : ℤ) → minus (neg_ℤ z) ≡ plus z
unfolding plus minus
minus_neg (pos zero) = refl
minus_neg (pos (suc a)) = refl
minus_neg (negsuc a) = refl

pub abs_parts : (z : ℤ) → nat_abs z ≡ plus z + minus z
unfolding plus minus
abs_parts (pos a) = omega arith
abs_parts (negsuc a) = omega arith

by_cond : (c : Bool) (x y : ℤ) (P : ℤ → Type 0) → (T c → P x) → (T (not c) → P y) → P (cond c x y)
by_cond true x y P f g = f tt
by_cond false x y P f g = g tt

-- a - b of two naturals
subℕ_parts : (a b : ℕ) → plus (sub_ℕ a b) + b ≡ a + minus (sub_ℕ a b)
unfolding plus minus
subℕ_parts a b =
    by_cond (ltb a b) (negsuc (b - suc a)) (pos (a - b)) (λ z. plus z + b ≡ a + minus z)
    (λ t. let h : a < b = ltb→lt a b t in omega arith)
    (λ t. let h : b ≤ a = nltb→le a b t in omega arith)

pub add_parts : (x y : ℤ) → plus (x +ℤ y) + (minus x + minus y) ≡ plus x + plus y + minus (x +ℤ y)
unfolding plus minus
add_parts (pos a) (pos b) = omega arith
add_parts (pos a) (negsuc b) = omega (arith, subℕ_parts a (suc b))
add_parts (negsuc a) (pos b) = omega (arith, subℕ_parts b (suc a))
add_parts (negsuc a) (negsuc b) = omega arith

pub sub_parts : (x y : ℤ) → plus (x -ℤ y) + (minus x + plus y) ≡ plus x + minus y + minus (x -ℤ y)
sub_parts x y = omega (arith, add_parts x (neg_ℤ y), plus_neg y, minus_neg y)

pub plus_mul : (x y : ℤ) → plus (x *ℤ y) ≡ plus x * plus y + minus x * minus y
unfolding plus minus
plus_mul (pos a) (pos b) = omega arith
plus_mul (pos a) (negsuc b) = plus_neg (pos (a * suc b)) ∙ omega arith
plus_mul (negsuc a) (pos b) = plus_neg (pos (suc a * b)) ∙ omega arith
plus_mul (negsuc a) (negsuc b) = omega arith

pub minus_mul : (x y : ℤ) → minus (x *ℤ y) ≡ plus x * minus y + minus x * plus y
unfolding plus minus
minus_mul (pos a) (pos b) = omega arith
minus_mul (pos a) (negsuc b) = minus_neg (pos (a * suc b)) ∙ omega arith
minus_mul (negsuc a) (pos b) = minus_neg (pos (suc a * b)) ∙ omega arith
minus_mul (negsuc a) (negsuc b) = omega arith

-- two integers are equal if their differences are
pub eq_of : {x y : ℤ} → plus x + minus y ≡ plus y + minus x → x ≡ y
unfolding plus minus
eq_of {x = pos a} {y = pos b} h = ap pos (omega arith)
eq_of {x = pos a} {y = negsuc b} h = absurd (omega arith)
eq_of {x = negsuc a} {y = pos b} h = absurd (omega arith)
eq_of {x = negsuc a} {y = negsuc b} h = ap negsuc (omega arith)

pub of_eq : {x y : ℤ} → x ≡ y → plus x + minus y ≡ plus y + minus x
of_eq {x} {y} e = omega (arith, ap plus e, ap minus e)

-- equality as a test
unfoldable pub eq_z : ℤ → ℤ → Bool
eq_z x y = le_z x y && le_z y x

-- the order
le_z_parts : (x y : ℤ) → T (le_z x y) → plus x + minus y ≤ plus y + minus x
unfolding plus minus
le_z_parts (pos a) (pos b) t = omega (arith, leb→le a b t)
le_z_parts (pos a) (negsuc b) t = absurd t
le_z_parts (negsuc a) (pos b) t = omega arith
le_z_parts (negsuc a) (negsuc b) t = omega (arith, leb→le b a t)

parts_le_z : (x y : ℤ) → plus x + minus y ≤ plus y + minus x → T (le_z x y)
unfolding plus minus
parts_le_z (pos a) (pos b) h = le→leb a b (omega arith)
parts_le_z (pos a) (negsuc b) h = absurd (omega arith)
parts_le_z (negsuc a) (pos b) h = tt
parts_le_z (negsuc a) (negsuc b) h = le→leb b a (omega arith)

lt_z_parts : (x y : ℤ) → T (lt_z x y) → plus x + minus y < plus y + minus x
unfolding plus minus
lt_z_parts (pos a) (pos b) t = omega (arith, ltb→lt a b t)
lt_z_parts (pos a) (negsuc b) t = absurd t
lt_z_parts (negsuc a) (pos b) t = omega arith
lt_z_parts (negsuc a) (negsuc b) t = omega (arith, ltb→lt b a t)

parts_lt_z : (x y : ℤ) → plus x + minus y < plus y + minus x → T (lt_z x y)
unfolding plus minus
parts_lt_z (pos a) (pos b) h = lt→ltb a b (omega arith)
parts_lt_z (pos a) (negsuc b) h = absurd (omega arith)
parts_lt_z (negsuc a) (pos b) h = tt
parts_lt_z (negsuc a) (negsuc b) h = lt→ltb b a (omega arith)

pub of_le : {x y : ℤ} → x ≤ℤ y → plus x + minus y ≤ plus y + minus x
of_le {x} {y} h = le_z_parts x y h.le

pub le_of : {x y : ℤ} → plus x + minus y ≤ plus y + minus x → x ≤ℤ y
le_of {x} {y} h = record { le = parts_le_z x y h }

pub of_lt : {x y : ℤ} → x <ℤ y → plus x + minus y < plus y + minus x
of_lt {x} {y} h = lt_z_parts x y h.lt

pub lt_of : {x y : ℤ} → plus x + minus y < plus y + minus x → x <ℤ y
lt_of {x} {y} h = record { lt = parts_lt_z x y h }

-- tests, as a branch of the code leaves them
pub lt_z_true : (x y : ℤ) → lt_z x y ≡ true → plus x + minus y < plus y + minus x
lt_z_true x y e = lt_z_parts x y (subst T (sym e) tt)

pub le_z_true : (x y : ℤ) → le_z x y ≡ true → plus x + minus y ≤ plus y + minus x
le_z_true x y e = le_z_parts x y (subst T (sym e) tt)

false_T : (b : Bool) → b ≡ false → T b → ⊥
false_T b e t = subst T e t

pub lt_z_false : (x y : ℤ) → lt_z x y ≡ false → plus y + minus x ≤ plus x + minus y
lt_z_false x y e = by (λ h. false_T (lt_z x y) e (parts_lt_z x y h))
  where
    by : (plus x + minus y < plus y + minus x → ⊥) → plus y + minus x ≤ plus x + minus y
    by h = omega arith

pub le_z_false : (x y : ℤ) → le_z x y ≡ false → plus y + minus x < plus x + minus y
le_z_false x y e = by (λ h. false_T (le_z x y) e (parts_le_z x y h))
  where
    by : (plus x + minus y ≤ plus y + minus x → ⊥) → plus y + minus x < plus x + minus y
    by h = omega arith

-- and the other way, for a definition that goes by such a test
pub true_lt_z : (x y : ℤ) → plus x + minus y < plus y + minus x → lt_z x y ≡ true
true_lt_z x y h = T-is (lt_z x y) (parts_lt_z x y h)

pub true_le_z : (x y : ℤ) → plus x + minus y ≤ plus y + minus x → le_z x y ≡ true
true_le_z x y h = T-is (le_z x y) (parts_le_z x y h)

pub false_lt_z : (x y : ℤ) → plus y + minus x ≤ plus x + minus y → lt_z x y ≡ false
false_lt_z x y h = T-not_is (lt_z x y) (λ t. let k = lt_z_parts x y t in omega arith)

pub false_le_z : (x y : ℤ) → plus y + minus x < plus x + minus y → le_z x y ≡ false
false_le_z x y h = T-not_is (le_z x y) (λ t. let k = le_z_parts x y t in omega arith)

pub eq_z_true : (x y : ℤ) → eq_z x y ≡ true → x ≡ y
unfolding eq_z
eq_z_true x y e =
    let h = le_z_true x y (both_left (le_z x y) (le_z y x) e) in
    let k = le_z_true y x (both_right (le_z x y) (le_z y x) e) in
    eq_of (omega arith)

-- the rules that `omega` is handed beside `arith`: it then reads hypotheses of ℤ's order and equations, and proves such goals
pub ruleset ints = (of_le, le_of, of_lt, lt_of, of_eq, eq_of, lt_z_true, lt_z_false, le_z_true, le_z_false)

pub eq_z_of : (x y : ℤ) → x ≡ y → eq_z x y ≡ true
unfolding eq_z
eq_z_of x y e = rw (true_le_z x y (omega (arith, ints)), true_le_z y x (omega (arith, ints)))

pub eq_z_not : (x y : ℤ) → (x ≡ y → ⊥) → eq_z x y ≡ false
eq_z_not x y h = T-not_is (eq_z x y) (λ t. h (eq_z_true x y (T-is _ t)))

pub eq_z_pos : (a b : ℕ) → eq_z (pos a) (pos b) ≡ eqb a b
unfolding plus minus
eq_z_pos a b =
    ⊎_elim (λ (e : a ≡ b). eq_z_of (pos a) (pos b) (ap pos e) ∙ sym (eq-eqb a b e))
    (λ (e : a ≡ b → ⊥). eq_z_not (pos a) (pos b) (λ f. e (omega (arith, ints))) ∙ sym (ne_eqb a b e)) (eq-or-ne a b)

-- a number at or above low is low plus how far it is from it, and low plus nothing else
pub offset_is : (low v : ℤ) → low ≤ℤ v → (i : ℕ) → eq_z v (low +ℤ pos i) ≡ eqb (nat_abs (v -ℤ low)) i
unfolding plus minus
offset_is low v h i =
    ⊎_elim
    (λ (e : nat_abs (v -ℤ low) ≡ i).
    eq_z_of v (low +ℤ pos i) (omega (arith, ints, add_parts low (pos i), abs_parts (v -ℤ low), sub_parts v low, one_part_zero (v -ℤ low))) ∙ sym (eq-eqb _ i e))
    (λ (e : nat_abs (v -ℤ low) ≡ i → ⊥).
    eq_z_not v (low +ℤ pos i) (λ (q : v ≡ low +ℤ pos i). e (omega (arith, ints, add_parts low (pos i), abs_parts (v -ℤ low), sub_parts v low, one_part_zero (v -ℤ low))))
    ∙ sym (ne_eqb _ i e))
    (eq-or-ne (nat_abs (v -ℤ low)) i)

pub le_same : (a b x y : ℤ) → a ≡ x → b ≡ y → x ≤ℤ y → a ≤ℤ b
le_same a b x y e f h = rw (e, f) h

-- what is not negative, as a cast to an unsigned type asks
pub not_negative : (z : ℤ) → minus z ≡ 0 → T (non_neg z)
unfolding minus
not_negative (pos n) e = tt
not_negative (negsuc n) e = absurd (omega arith)

pub not-below : (v l : ℤ) → l ≤ℤ v → T (non_neg (v -ℤ l))
not-below v l h = not_negative (v -ℤ l) (omega (arith, ints, sub_parts v l, one_part_zero (v -ℤ l)))

-- absolute values: what a bound is stated by, since `omega` reads it
pub abs_mul : (x y : ℤ) → nat_abs (x *ℤ y) ≡ nat_abs x * nat_abs y
abs_mul x y = abs_parts (x *ℤ y) ∙ simp (plus_mul, minus_mul, abs_parts) (omega arith)

pub abs_add : (x y : ℤ) → nat_abs (x +ℤ y) ≤ nat_abs x + nat_abs y
abs_add x y = omega (arith, abs_parts x, abs_parts y, abs_parts (x +ℤ y), add_parts x y, one_part_zero (x +ℤ y))

pub abs_neg : (x : ℤ) → nat_abs (neg_ℤ x) ≡ nat_abs x
abs_neg x = omega (arith, abs_parts x, abs_parts (neg_ℤ x), plus_neg x, minus_neg x)

pub abs_mul_le : (x y : ℤ) {a b : ℕ} → nat_abs x ≤ a → nat_abs y ≤ b → nat_abs (x *ℤ y) ≤ a * b
abs_mul_le x y h k = rw abs_mul (N.mul-le-mul h k)

mag_abs : (z : ℤ) → mag z ≤ nat_abs z
mag_abs (pos a) = omega arith
mag_abs (negsuc a) = omega arith

-- z is in range if its absolute value is below half of the width's power
pub fits_abs : {w : Width} (z : ℤ) → nat_abs z < 2 ^ hbits w → SFits w z
fits_abs z h = record { sfits = N.lt_of_le_of_lt (mag_abs z) h }

-- a quotient toward 0 and its remainder
pub abs_quot : (x d : ℤ) → nat_abs (quot_z x d) ≡ nat_abs x / nat_abs d
abs_quot (pos a) (pos b) = refl
abs_quot (pos a) (negsuc b) = abs_neg (pos (a / suc b))
abs_quot (negsuc a) (pos b) = abs_neg (pos (suc a / b))
abs_quot (negsuc a) (negsuc b) = refl

pub abs_rem : (x d : ℤ) → nat_abs (rem_z x d) ≡ nat_abs x % nat_abs d
abs_rem (pos a) d = refl
abs_rem (negsuc a) d = abs_neg (pos (suc a % nat_abs d))

pub quot_fits : {w : Width} (x d : ℤ) → nat_abs x < 2 ^ hbits w → SFits w (quot_z x d)
quot_fits x d h = fits_abs (quot_z x d) (rw abs_quot (N.lt_of_le_of_lt (N.div-le_self (nat_abs x) (nat_abs d)) h))

pub rem-fits : {w : Width} (x d : ℤ) → nat_abs x < 2 ^ hbits w → SFits w (rem_z x d)
rem-fits x d h = fits_abs (rem_z x d) (rw abs_rem (N.lt_of_le_of_lt (N.mod-le (nat_abs x) (nat_abs d)) h))

-- bits that are not 0 stand for a number that is not 0
pub bits_abs : (b : ℕ) → (b ≡ 0 → ⊥) → 0 < nat_abs (to_z w64 b)
bits_abs b h =
    by_cond (ltb b (2 ^ 63)) (pos b) (negsuc (2 ^ 64 - suc b)) (λ z. 0 < nat_abs z)
    (λ t. omega (arith)) (λ t. omega arith)

-- what the machine reads back from the bits of a call's result, whose range is `c.CALL.type_inv`
pub read_back-at : (w : Width) (z : ℤ) → mag z < 2 ^ hbits w → to_z w (of_z w z) ≡ z
read_back-at w z h = to_z-of_z (record { sfits = h })

pub read_back : (z : ℤ) → mag z < 2 ^ 63 → to_z w64 (of_z w64 z) ≡ z
read_back z h = read_back-at w64 z h

-- and a number that is not 0 has bits that are not 0
pub abs_bits : (z : ℤ) → 0 < nat_abs z → SFits w64 z → 0 < of_z w64 z
abs_bits (pos a) h f = h
abs_bits (negsuc a) h f = omega (arith, f.sfits)

-- a quotient by a divisor of the number is exact, on both sides of 0
neg-mul : (k : ℕ) (d : ℤ) → neg_ℤ (pos k) *ℤ d ≡ neg_ℤ (pos k *ℤ d)
neg-mul k d =
    omega
    (arith, ints, plus_mul (neg_ℤ (pos k)) d, minus_mul (neg_ℤ (pos k)) d, plus_mul (pos k) d, minus_mul (pos k) d, plus_neg (pos k *ℤ d), minus_neg (pos k *ℤ d), ap (λ i. i * plus d) (plus_neg (pos k)), ap (λ i. i * minus d) (plus_neg (pos k)), ap (λ i. i * plus d) (minus_neg (pos k)), ap (λ i. i * minus d) (minus_neg (pos k)))

pub quot_exact : (x d : ℤ) → 0 < nat_abs d → nat_abs d ∣ nat_abs x → quot_z x d *ℤ d ≡ x
quot_exact (pos a) (pos b) h k = ap pos (N.div-mul_cancel b k)
quot_exact (pos a) (negsuc b) h k = neg-mul (a / suc b) (negsuc b) ∙ neg_ℤ-neg_ℤ _ ∙ ap pos (N.div-mul_cancel (suc b) k)
quot_exact (negsuc a) (pos b) h k = neg-mul (suc a / b) (pos b) ∙ ap (λ i. neg_ℤ (pos i)) (N.div-mul_cancel b k)
quot_exact (negsuc a) (negsuc b) h k = ap (λ i. neg_ℤ (pos i)) (N.div-mul_cancel (suc b) k)
