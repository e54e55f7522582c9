-- Names that are the same, and the names of the inputs among nodes.
use Rattle.std.specs.Prelude.{◌≡◌, refl, true, false, List, [], ◌∷◌, ◌++◌, map, ℕ, ◌&&◌, eqb, length}
use Rattle.std.proofs.Common.{ap₂, sym, ap, ◌∙◌, true≢false, ⊎_elim, arith, eq-eqb, eqb-true}
use lib.Pointwise.{pointwise}
use Rattle.laws.specs.Test.{zero≢one, both_left, both_right, decide}
use Rattle.rules.specs.CircuitText.{same_name}
use Rattle.rules.specs.Circuit.{Name, Given, given_names}
use Rattle.rules.specs.Network.{LutNode, Input, Linear, Bootstrap, is_input, count}
use Rattle.rules.specs.NetworkText.{names, all_inputs}

-- `==` of bytes is the definition's
pub same_bytes : (w v : List ℕ) → pointwise eqb w v ≡ same_name w v
unfolding same_name
same_bytes [] [] = refl
same_bytes [] (c ∷ v) = refl
same_bytes (b ∷ w) [] = refl
same_bytes (b ∷ w) (c ∷ v) = ap (λ r. eqb b c && r) (same_bytes w v)

pub name_self : (w : List ℕ) → same_name w w ≡ true
unfolding same_name
name_self [] = refl
name_self (b ∷ w) = rw (eq-eqb b b refl) (name_self w)

pub name_is : (w v : List ℕ) → same_name w v ≡ true → w ≡ v
unfolding same_name
name_is [] [] e = refl
name_is [] (c ∷ v) e = absurd (zero≢one (cc))
name_is (b ∷ w) [] e = absurd (zero≢one (cc))
name_is (b ∷ w) (c ∷ v) e =
    ap₂ {C = List ℕ} (λ x y. x ∷ y) (eqb-true b c (both_left (eqb b c) (same_name w v) e)) (name_is w v (both_right (eqb b c) (same_name w v) e))

pub name_other : (m n : Name) → same_name n m ≡ false → same_name m n ≡ false
name_other m n e =
    ⊎_elim (λ (h : same_name m n ≡ true). absurd (true≢false (sym (name_self n) ∙ ap (same_name n) (sym (name_is m n h)) ∙ e))) (λ h. h)
    (decide (same_name m n))

pub names-append : (xs ys : List LutNode) → names (xs ++ ys) ≡ names xs ++ names ys
unfolding names
names-append [] ys = refl
names-append (Input a ∷ xs) ys = ap {B = List Name} (λ l. a.name ∷ l) (names-append xs ys)
names-append (Linear c ts ∷ xs) ys = names-append xs ys
names-append (Bootstrap i table ∷ xs) ys = names-append xs ys

pub names-count : (xs : List LutNode) → length (names xs) ≡ count is_input xs
unfolding names count is_input
names-count [] = refl
names-count (Input a ∷ xs) = omega (arith, names-count xs)
names-count (Linear c ts ∷ xs) = omega (arith, names-count xs)
names-count (Bootstrap i table ∷ xs) = omega (arith, names-count xs)

pub all_named : (xs : List LutNode) → all_inputs xs ≡ true → length (names xs) ≡ length xs
unfolding all_inputs
all_named xs e = names-count xs ∙ eqb-true (count is_input xs) (length xs) e

pub names-inputs : (gs : List Given) → names (map Input gs) ≡ given_names gs
unfolding names given_names
names-inputs [] = refl
names-inputs (g ∷ gs) = ap {B = List Name} (λ l. g.name ∷ l) (names-inputs gs)
