-- Coefficients that all have a factor are normalised to the same.
use Rattle.std.specs.Prelude.{◌≡◌, refl, Bool, true, false, not, List, [], ◌∷◌, ℕ, zero, suc, ◌*◌, ◌/◌, ◌<◌, max, ℤ, pos, negsuc, neg_ℤ, nat_abs, ◌*ℤ◌, get_or}
use Rattle.std.proofs.Common.{sym, ap₂, subst, ◌∙◌, ⊎_elim, zero-mul, arith}
use Rattle.std.proofs.Math.Path.{ap}
use Rattle.std.specs.Int.{◌∣◌}
use Rattle.std.proofs.Math.Nat.{dvd-mul_left, div-mul_cancel, dvd_of_mul-dvd-mul_right, mul-dvd-mul_right, dvd_antisymm, eq-zero_of_zero-dvd}
use Rattle.std.proofs.Math.IntN.{zero-*ℤ}
use Rattle.laws.specs.Gcd.{gcd, gcd_is, gcd_zero}
use Rattle.laws.specs.Integer.{eq_of, plus_mul, minus_mul, abs_mul}
use Rattle.laws.specs.Test.{if◌then◌otherwise◌, eq-or-ne, positive_of}
use Rattle.rules.specs.Scale.{gcd_from, starts_negative, divisor, quotients, normalised}
use Rattle.theorems.specs.Normalised.{divides_all}
use Rattle.scale.specs.Divisor.{divisor_not_zero}
use Rattle.merged_rows.specs.MergedValues.{times, quotients-times, normalised-times}

-- ---- the gcd
gcd-times : (a b k : ℕ) → 0 < k → gcd (a * k) (b * k) ≡ gcd a b * k
gcd-times a b k h =
    let G = gcd_is (a * k) (b * k) in
    let g = gcd_is a b in
    let whole : k ∣ gcd (a * k) (b * k) = G.greatest k (dvd-mul_left k a) (dvd-mul_left k b) in
    let back : gcd (a * k) (b * k) / k * k ≡ gcd (a * k) (b * k) = div-mul_cancel k whole in
    let left : gcd (a * k) (b * k) / k ∣ a = dvd_of_mul-dvd-mul_right (gcd (a * k) (b * k) / k) h (subst (λ x. x ∣ a * k) (sym back) G.left) in
    let right : gcd (a * k) (b * k) / k ∣ b = dvd_of_mul-dvd-mul_right (gcd (a * k) (b * k) / k) h (subst (λ x. x ∣ b * k) (sym back) G.right) in
    dvd_antisymm (subst (λ x. x ∣ gcd a b * k) back (mul-dvd-mul_right (gcd (a * k) (b * k) / k) (g.greatest (gcd (a * k) (b * k) / k) left right) k))
    (G.greatest (gcd a b * k) (mul-dvd-mul_right (gcd a b) g.left k) (mul-dvd-mul_right (gcd a b) g.right k))

gcd_from-times : (k : ℤ) → 0 < nat_abs k → (g : ℕ) (cs : List ℤ) → gcd_from (g * nat_abs k) (times k cs) ≡ gcd_from g cs * nat_abs k
unfolding gcd_from times
gcd_from-times k h g [] = refl
gcd_from-times k h g (c ∷ cs) =
    ap (λ n. gcd_from (gcd (g * nat_abs k) n) (times k cs)) (abs_mul c k)
    ∙ ap (λ n. gcd_from n (times k cs)) (gcd-times g (nat_abs c) (nat_abs k) h)
    ∙ gcd_from-times k h (gcd g (nat_abs c)) cs

-- ---- the sign
positive : (n : ℕ) (cs : List ℤ) → 0 < n → starts_negative (pos n ∷ cs) ≡ false
unfolding starts_negative
positive zero cs h = absurd (omega arith)
positive (suc n) cs h = refl

negative : (n : ℕ) (cs : List ℤ) → 0 < n → starts_negative (neg_ℤ (pos n) ∷ cs) ≡ true
unfolding starts_negative
negative zero cs h = absurd (omega arith)
negative (suc n) cs h = refl

sign_up : (m : ℕ) (cs : List ℤ) → starts_negative (times (pos (suc m)) cs) ≡ starts_negative cs
unfolding starts_negative times
sign_up m [] = refl
sign_up m (pos zero ∷ cs) = ap (λ n. starts_negative (pos n ∷ times (pos (suc m)) cs)) (zero-mul (suc m)) ∙ sign_up m cs
sign_up m (pos (suc j) ∷ cs) = positive (suc j * suc m) (times (pos (suc m)) cs) (omega arith)
sign_up m (negsuc j ∷ cs) = negative (suc j * suc m) (times (pos (suc m)) cs) (omega arith)

sign_down : (m : ℕ) (cs : List ℤ) → 0 < gcd_from 0 cs → starts_negative (times (negsuc m) cs) ≡ not (starts_negative cs)
unfolding starts_negative times gcd_from
sign_down m [] h = absurd (omega arith)
sign_down m (pos zero ∷ cs) h =
    ap (λ n. starts_negative (neg_ℤ (pos n) ∷ times (negsuc m) cs)) (zero-mul (suc m)) ∙ sign_down m cs (subst (λ n. 0 < gcd_from n cs) (gcd_zero 0) h)
sign_down m (pos (suc j) ∷ cs) h = negative (suc j * suc m) (times (negsuc m) cs) (omega arith)
sign_down m (negsuc j ∷ cs) h = positive (suc j * suc m) (times (negsuc m) cs) (omega arith)

-- ---- the divisor has the factor too, where not all are 0
largest-one : (g m x : ℕ) → x ≡ suc g * suc m → max x 1 ≡ suc g * suc m
largest-one g m x e = omega arith

one_less : (g : ℕ) → max (suc g) 1 ≡ suc g
one_less g = omega arith

divisor_up : (m : ℕ) (b : Bool) (g x : ℕ) → 0 < g → x ≡ g * suc m
    → (if b then neg_ℤ (pos (max x 1)) otherwise pos (max x 1)) ≡ (if b then neg_ℤ (pos (max g 1)) otherwise pos (max g 1)) *ℤ pos (suc m)
divisor_up m b zero x h e = absurd (omega arith)
divisor_up m true (suc g) x h e = ap (λ n. neg_ℤ (pos n)) (largest-one g m x e) ∙ sym (ap (λ n. neg_ℤ (pos n) *ℤ pos (suc m)) (one_less g))
divisor_up m false (suc g) x h e = ap pos (largest-one g m x e) ∙ sym (ap (λ n. pos n *ℤ pos (suc m)) (one_less g))

divisor_down : (m : ℕ) (b : Bool) (g x : ℕ) → 0 < g → x ≡ g * suc m
    → (if not b then neg_ℤ (pos (max x 1)) otherwise pos (max x 1)) ≡ (if b then neg_ℤ (pos (max g 1)) otherwise pos (max g 1)) *ℤ negsuc m
divisor_down m b zero x h e = absurd (omega arith)
divisor_down m true (suc g) x h e = ap pos (largest-one g m x e) ∙ sym (ap (λ n. neg_ℤ (pos n) *ℤ negsuc m) (one_less g))
divisor_down m false (suc g) x h e = ap (λ n. neg_ℤ (pos n)) (largest-one g m x e) ∙ sym (ap (λ n. pos n *ℤ negsuc m) (one_less g))

gcd_of : (k : ℤ) (cs : List ℤ) → 0 < nat_abs k → gcd_from 0 (times k cs) ≡ gcd_from 0 cs * nat_abs k
gcd_of k cs h = ap (λ n. gcd_from n (times k cs)) (sym (zero-mul (nat_abs k))) ∙ gcd_from-times k h 0 cs

divisor-times : (k : ℤ) (cs : List ℤ) → 0 < nat_abs k → 0 < gcd_from 0 cs → divisor (times k cs) ≡ divisor cs *ℤ k
unfolding divisor
divisor-times (pos zero) cs h g = absurd (omega arith)
divisor-times (pos (suc m)) cs h g =
    ap (λ b. if b then neg_ℤ (pos (max (gcd_from 0 (times (pos (suc m)) cs)) 1)) otherwise pos (max (gcd_from 0 (times (pos (suc m)) cs)) 1)) (sign_up m cs)
    ∙ divisor_up m (starts_negative cs) (gcd_from 0 cs) (gcd_from 0 (times (pos (suc m)) cs)) g (gcd_of (pos (suc m)) cs h)
divisor-times (negsuc m) cs h g =
    ap (λ b. if b then neg_ℤ (pos (max (gcd_from 0 (times (negsuc m) cs)) 1)) otherwise pos (max (gcd_from 0 (times (negsuc m) cs)) 1)) (sign_down m cs g)
    ∙ divisor_down m (starts_negative cs) (gcd_from 0 cs) (gcd_from 0 (times (negsuc m) cs)) g (gcd_of (negsuc m) cs h)

-- ---- the quotients
mul_mul : (x d k : ℤ) → (x *ℤ d) *ℤ k ≡ x *ℤ (d *ℤ k)
mul_mul x d k = eq_of (simp (plus_mul, minus_mul) (omega arith))

times-times : (k d : ℤ) (l : List ℤ) → times k (times d l) ≡ times (d *ℤ k) l
unfolding times
times-times k d [] = refl
times-times k d (x ∷ l) = ap₂ {C = List ℤ} (λ v r. v ∷ r) (mul_mul x d k) (times-times k d l)

zero_times : (k x : ℤ) → nat_abs x ≡ 0 → x *ℤ k ≡ x
zero_times k (pos zero) e = zero-*ℤ k
zero_times k (pos (suc n)) e = absurd (omega arith)
zero_times k (negsuc n) e = absurd (omega arith)

zeros_times : (k : ℤ) (cs : List ℤ) → ((i : ℕ) → nat_abs (get_or cs i (pos 0)) ≡ 0) → times k cs ≡ cs
unfolding times
zeros_times k [] h = refl
zeros_times k (x ∷ cs) h = ap₂ {C = List ℤ} (λ v r. v ∷ r) (zero_times k x (h 0)) (zeros_times k cs (λ i. h (suc i)))

abs_positive : (d k : ℤ) → 0 < nat_abs d → 0 < nat_abs k → 0 < nat_abs (d *ℤ k)
abs_positive d k h g = rw (abs_mul d k) (product (nat_abs d) (nat_abs k) h g)
  where
    product : (m n : ℕ) → 0 < m → 0 < n → 0 < m * n
    product zero n h g = absurd (omega arith)
    product (suc m) zero h g = absurd (omega arith)
    product (suc m) (suc n) h g = omega arith

pub normalised_same : (k : ℤ) (cs : List ℤ) → 0 < nat_abs k → normalised (times k cs) ≡ normalised cs
normalised_same k cs h =
    ⊎_elim
    (λ (e : gcd_from 0 cs ≡ 0). ap normalised (zeros_times k cs (λ i. eq-zero_of_zero-dvd (subst (λ g. g ∣ nat_abs (get_or cs i (pos 0))) e (divides_all 0 cs i)))))
    (λ (e : gcd_from 0 cs ≡ 0 → ⊥). divided (positive_of (gcd_from 0 cs) e))
    (eq-or-ne (gcd_from 0 cs) 0)
  where
    divided : 0 < gcd_from 0 cs → normalised (times k cs) ≡ normalised cs
    divided g =
        let D = divisor cs in
        unfold normalised in (ap (λ d. quotients d (times k cs)) (divisor-times k cs h g)
        ∙ ap (λ l. quotients (D *ℤ k) (times k l)) (sym (normalised-times cs))
        ∙ ap (quotients (D *ℤ k)) (times-times k D (normalised cs))
        ∙ quotients-times (D *ℤ k) (normalised cs) (abs_positive D k (divisor_not_zero cs) h))
