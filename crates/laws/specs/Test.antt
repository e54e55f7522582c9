-- Tests that compute, and what they say.
use Rattle.std.specs.Prelude.{◌≡◌, refl, Bool, true, false, not, ◌&&◌, ◌||◌, List, [], ◌∷◌, ◌⊎◌, ℕ, zero, suc, ◌<◌, ◌≤◌, T, eqb, ltb, length, get_or}
use Rattle.std.proofs.Common.{sym, subst, ◌∙◌, true≢false, inl, inr, ⊎_elim, not-suc-le-zero, le_of_suc-le-suc, eq-or-lt_of_le, arith, eq-eqb, ne_eqb, ltb→lt, nltb→le}
use Rattle.std.proofs.Math.Option.{Option, none, some}
use Rattle.std.proofs.Math.Dec.{eqb_refl}

infixr 1 if◌then◌otherwise◌
-- one of two, by a test
abbrev pub if◌then◌otherwise◌ {ℓ} : {A : Type ℓ} → Bool → A → A → A
if true then a otherwise b = a
if false then a otherwise b = b

-- whether there is one
abbrev pub is_some {ℓ} : {A : Type ℓ} → Option A → Bool
is_some none = false
is_some (some a) = true

pub and_left : (a b : Bool) → T (a && b) → T a
and_left true b t = tt
and_left false b t = absurd t

pub and_right : (a b : Bool) → T (a && b) → T b
and_right true b t = t
and_right false b t = absurd t

pub and_both : (a b : Bool) → T a → T b → T (a && b)
and_both true b s t = t
and_both false b s t = absurd s

-- two constructors that are said to be one: `cc` then proves 0 ≡ 1
pub zero≢one : ◌≡◌ {A = ℕ} 0 1 → ⊥
zero≢one e = omega arith

-- whichever test holds
pub same_of_four : (a b c : Bool) (x : ℕ) → (if a then x otherwise if b then x otherwise if c then x otherwise x) ≡ x
same_of_four true b c x = refl
same_of_four false true c x = refl
same_of_four false false true x = refl
same_of_four false false false x = refl

-- of every index below n
unfoldable pub allb : ℕ → (ℕ → Bool) → Bool
allb zero f = true
allb (suc n) f = let r = allb n f in f n && r

pub allb-at : (n : ℕ) (f : ℕ → Bool) → T (allb n f) → (i : ℕ) → i < n → T (f i)
unfolding allb
allb-at zero f t i h = absurd (not-suc-le-zero h)
allb-at (suc n) f t i h =
    ⊎_elim (λ (e : i ≡ n). subst (λ (k : ℕ). T (f k)) (sym e) (and_left (f n) (allb n f) t))
    (λ (l : i < n). allb-at n f (and_right (f n) (allb n f) t) i l)
    (eq-or-lt_of_le (le_of_suc-le-suc h))

pub allb-all : (n : ℕ) (f : ℕ → Bool) → ((i : ℕ) → i < n → T (f i)) → T (allb n f)
unfolding allb
allb-all zero f h = tt
allb-all (suc n) f h = and_both (f n) (allb n f) (h n (omega arith)) (allb-all n f (λ i l. h i (omega arith)))

-- an order is decided
pub lt_or_le : (a b : ℕ) → (a < b) ⊎ (b ≤ a)
lt_or_le a b = by (ltb a b) (ltb→lt a b) (nltb→le a b)
  where
    by : (t : Bool) → (T t → a < b) → (T (not t) → b ≤ a) → (a < b) ⊎ (b ≤ a)
    by true f g = inl (f tt)
    by false f g = inr (g tt)

pub eqb_of : (a b : ℕ) → a ≡ b → T (eqb a b)
eqb_of a b e = subst (λ (k : ℕ). T (eqb a k)) e (eqb_refl a)

pub eq-or-ne : (a b : ℕ) → (a ≡ b) ⊎ (a ≡ b → ⊥)
eq-or-ne a b = ⊎_elim (λ (l : a < b). inr (λ e. omega arith)) (λ (l : b ≤ a). ⊎_elim (λ (k : b < a). inr (λ e. omega arith)) (λ (k : a ≤ b). inl (omega arith)) (lt_or_le b a)) (lt_or_le a b)

pub positive_of : (n : ℕ) → (n ≡ 0 → ⊥) → 0 < n
positive_of zero f = absurd (f refl)
positive_of (suc n) f = omega arith

-- a test goes one way or the other, with the equation
pub decide : (b : Bool) → (b ≡ true) ⊎ (b ≡ false)
decide true = inl refl
decide false = inr refl

pub T-is : (b : Bool) → T b → b ≡ true
T-is true t = refl
T-is false t = absurd t

pub T-not_is : (b : Bool) → (T b → ⊥) → b ≡ false
T-not_is true f = absurd (f tt)
T-not_is false f = refl

pub is_T : (b : Bool) → b ≡ true → T b
is_T b e = subst T (sym e) tt

-- the default does not matter within the list
pub get_d_any {ℓ} : {A : Type ℓ} (l : List A) (i : ℕ) (a b : A) → i < length l → get_or l i a ≡ get_or l i b
get_d_any [] i a b h = absurd (not-suc-le-zero h)
get_d_any (x ∷ l) zero a b h = refl
get_d_any (x ∷ l) (suc i) a b h = get_d_any l i a b (le_of_suc-le-suc h)

-- what holds of both holds of the one chosen
pub if_both {ℓ} : {A : Type ℓ} (Q : A → Type 0) (b : Bool) {x y : A} → Q x → Q y → Q (if b then x otherwise y)
if_both Q true f g = f
if_both Q false f g = g

-- a disjunction that is false, a conjunction that is true
pub not_both : (b : Bool) → b ≡ true → b ≡ false → ⊥
not_both b e f = true≢false (sym e ∙ f)

pub neither_left : (a b : Bool) → (a || b) ≡ false → a ≡ false
neither_left true b h = h
neither_left false b h = refl

pub neither_right : (a b : Bool) → (a || b) ≡ false → b ≡ false
neither_right true b h = absurd (subst T h tt)
neither_right false b h = h

pub both_left : (a b : Bool) → (a && b) ≡ true → a ≡ true
both_left true b h = refl
both_left false b h = h

pub both_right : (a b : Bool) → (a && b) ≡ true → b ≡ true
both_right true b h = h
both_right false b h = absurd (subst T (sym h) tt)

pub or_by_right : (a b : Bool) → b ≡ true → (a || b) ≡ true
or_by_right true b e = refl
or_by_right false b e = e

pub or_cases : (a b : Bool) → (a || b) ≡ true → (a ≡ true) ⊎ (b ≡ true)
or_cases true b e = inl refl
or_cases false b e = inr e

pub both : (a b : Bool) → a ≡ true → b ≡ true → (a && b) ≡ true
both a b e f = rw (e, f) refl

pub neither : (a b : Bool) → a ≡ false → b ≡ false → (a || b) ≡ false
neither a b e f = rw (e, f) refl

pub not_of_false : (a : Bool) → a ≡ false → not a ≡ true
not_of_false a e = rw e refl

pub not_of_true : (a : Bool) → a ≡ true → not a ≡ false
not_of_true a e = rw e refl

pub and_swap : (a b c : Bool) → (a && (b && c)) ≡ (b && (a && c))
and_swap true true c = refl
and_swap true false c = refl
and_swap false true c = refl
and_swap false false c = refl

pub or_swap : (a b c : Bool) → (a || (b || c)) ≡ (b || (a || c))
or_swap true true c = refl
or_swap true false c = refl
or_swap false true c = refl
or_swap false false c = refl

pub eqb_swap : (a b : ℕ) → eqb a b ≡ eqb b a
eqb_swap a b =
    ⊎_elim (λ (e : a ≡ b). rw (eq-eqb a b e, eq-eqb b a (sym e))) (λ (e : a ≡ b → ⊥). rw (ne_eqb a b e, ne_eqb b a (λ f. e (sym f))))
    (eq-or-ne a b)
