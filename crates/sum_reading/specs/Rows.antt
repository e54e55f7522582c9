-- The sums of all assignments as a table, and the first assignment that gives a value as the first place of the table that has it.
use Rattle.std.specs.Prelude as P
use Rattle.std.specs.Prelude.{◌≡◌, refl, Bool, true, false, not, cond, IfSome, List, [], ◌∷◌, ◌++◌, map, ◌⊎◌, ℕ, zero, suc, ◌+◌, ◌-◌, ◌<◌, ◌^◌, ltb, ℤ, pos, ◌+ℤ◌, ◌-ℤ◌, ◌*ℤ◌, length, get_or}
use Rattle.std.specs.List.{position, position_or_len}
use Rattle.std.proofs.Common.{sym, ap, ap₂, ◌∙◌, true≢false, inl, inr, ⊎_elim, arith, lt-ltb, suc-add, zero-add}
use Rattle.std.proofs.lemmas.Simd.{map-map}
use Rattle.std.proofs.lemmas.List.{map-append, length-map}
use Rattle.std.proofs.lemmas.List.Quantifiers.{position-Some}
use Rattle.std.proofs.Math.Option.{Option, none, some}
use Prim.Native.Nat.compare
use Rattle.laws.specs.Digits.{digits}
use Rattle.laws.specs.Integer.{plus, minus, add_parts, sub_parts, plus_mul, minus_mul, ints, eq_z, eq_z_true, eq_z_of, eq_z_not}
use Rattle.laws.specs.Select.{first_of}
use Rattle.laws.specs.Tabulate.{tabulate-at}
use Rattle.laws.specs.Test.{if◌then◌otherwise◌, decide}
use Rattle.rules.specs.Cone.{linear_table}
use Rattle.rules.specs.Composition.{assignments}
use Rattle.rules.specs.Network.{Term}
use Rattle.rules.specs.SumReading.{sum_of_bits, first_reading}
use Rattle.theorems.specs.ConeValues.{linear_table-length}
use Rattle.theorems.specs.Terms.{coefs}
use Rattle.theorems.specs.SourceRows.{assignments_are}

-- Where a value stands first.
abbrev pub first_place : ℤ → List ℤ → P.Option ℕ
first_place z l = position (λ x. eq_z x z) l

-- The bits of a row.
unfoldable pub row_reading : ℕ → P.Option ℕ → Option (List ℕ)
row_reading n P.None = none
row_reading n (P.Some row) = some (digits n row)

-- ---- laws: the sums of all assignments

map_same : {A B : Type 0} (f g : A → B) (l : List A) → ((x : A) → f x ≡ g x) → map f l ≡ map g l
map_same f g [] h = refl
map_same f g (x ∷ l) h = ap₂ {C = List _} (λ y r. y ∷ r) (h x) (map_same f g l h)

pub sums_are : (c : ℤ) (ts : List Term) → map (sum_of_bits c ts) (assignments (length ts)) ≡ map (λ v. c +ℤ v) (linear_table (coefs ts))
unfolding sum_of_bits assignments linear_table plus minus
sums_are c [] = ap {B = List ℤ} (λ z. z ∷ []) (omega (arith, ints, add_parts c (pos 0)))
sums_are c (t ∷ ts) =
    rw (map-append, map-map, map-map)
    (ap₂ {C = List ℤ} (λ s r. s ++ r)
    (sums_are (c +ℤ (t.coef *ℤ pos 0)) ts ∙ map_same _ _ table zero_bit)
    (sums_are (c +ℤ (t.coef *ℤ pos 1)) ts ∙ map_same _ _ table one_bit)
    ∙ sym (map-append _ table _ ∙ ap (λ (r : List ℤ). map (λ v. c +ℤ v) table ++ r) (map-map _ _ table)))
  where
    table : List ℤ
    table = linear_table (coefs ts)

    k : ℤ
    k = t.coef

    zero_bit : (v : ℤ) → (c +ℤ (k *ℤ pos 0)) +ℤ v ≡ c +ℤ v
    zero_bit v = omega (arith, ints, add_parts (c +ℤ (k *ℤ pos 0)) v, add_parts c (k *ℤ pos 0), plus_mul k (pos 0), minus_mul k (pos 0), add_parts c v)

    one_bit : (v : ℤ) → (c +ℤ (k *ℤ pos 1)) +ℤ v ≡ c +ℤ (k +ℤ v)
    one_bit v = omega (arith, ints, add_parts (c +ℤ (k *ℤ pos 1)) v, add_parts c (k *ℤ pos 1), plus_mul k (pos 1), minus_mul k (pos 1), add_parts c (k +ℤ v), add_parts k v)

-- ---- laws: tests

pub same_or_not : (x z : ℤ) → (x ≡ z) ⊎ (x ≡ z → ⊥)
same_or_not x z = ⊎_elim (λ e. inl (eq_z_true x z e)) (λ e. inr (λ f. true≢false (sym (eq_z_of x z f) ∙ e))) (decide (eq_z x z))

-- ---- laws: the first assignment that gives a value

-- the element at a place that was found
abbrev picked : {A : Type 0} → List A → A → P.Option ℕ → Option A
picked l d P.None = none
picked l d (P.Some k) = some (get_or l k d)

first_at : {A : Type 0} (f : A → Bool) (d : A) (l : List A) → first_of f l ≡ picked l d (position f l)
unfolding first_of
first_at f d [] = refl
first_at {A} f d (x ∷ l) = by (f x) (first_at f d l)
  where
    next : (k : ℕ) → picked (x ∷ l) d (cond (ltb (1 + k) (suc (length l))) (P.Some (1 + k)) P.None) ≡ picked l d (cond (ltb k (length l)) (P.Some k) P.None)
    next k = rw (suc-add 0 k, zero-add k, compare.suc-suc) (chosen (ltb k (length l)))
      where
        chosen : (t : Bool) → picked (x ∷ l) d (cond t (P.Some (suc k)) P.None) ≡ picked l d (cond t (P.Some k) P.None)
        chosen true = refl
        chosen false = refl

    by : (b : Bool) → first_of f l ≡ picked l d (position f l)
        → (if b then some x otherwise first_of f l)
        ≡ picked (x ∷ l) d (cond (ltb (cond (not b) (1 + position_or_len f l) 0) (suc (length l))) (P.Some (cond (not b) (1 + position_or_len f l) 0)) P.None)
    by true e = rw (lt-ltb 0 (suc (length l)) (omega arith))
    by false e = e ∙ sym (next (position_or_len f l))

-- of the images of a list, and by another test that is the same
place_of : {A B : Type 0} (f : B → Bool) (g : A → B) (h : A → Bool) (l : List A) → ((x : A) → f (g x) ≡ h x) → position_or_len f (map g l) ≡ position_or_len h l
place_of f g h [] e = refl
place_of f g h (x ∷ l) e = ap₂ (λ b k. cond (not b) (1 + k) 0) (e x) (place_of f g h l e)

position_of : {A B : Type 0} (f : B → Bool) (g : A → B) (h : A → Bool) (l : List A) → ((x : A) → f (g x) ≡ h x) → position f (map g l) ≡ position h l
position_of f g h l e = ap₂ {C = P.Option ℕ} (λ k n. cond (ltb k n) (P.Some k) P.None) (place_of f g h l e) (length-map l g)

pub shifted_test : (c z v : ℤ) → eq_z (c +ℤ v) z ≡ eq_z v (z -ℤ c)
unfolding plus minus
shifted_test c z v =
    ⊎_elim
    (λ (e : v ≡ z -ℤ c). eq_z_of (c +ℤ v) z (omega (arith, ints, add_parts c v, sub_parts z c)) ∙ sym (eq_z_of v (z -ℤ c) e))
    (λ (e : v ≡ z -ℤ c → ⊥). eq_z_not (c +ℤ v) z (λ (f : c +ℤ v ≡ z). e (omega (arith, ints, add_parts c v, sub_parts z c))) ∙ sym (eq_z_not v (z -ℤ c) e))
    (same_or_not v (z -ℤ c))

-- the assignment of a row
row_bits : (n : ℕ) (o : P.Option ℕ) → IfSome o (λ row. row < 2 ^ n) → picked (assignments n) [] o ≡ row_reading n o
unfolding row_reading
row_bits n P.None h = refl
row_bits n (P.Some row) h = ap some (ap (λ (l : List (List ℕ)). get_or l row []) (assignments_are n) ∙ tabulate-at (2 ^ n) (digits n) row [] h)

place_inside : (f : ℤ → Bool) (l : List ℤ) (n : ℕ) → length l ≡ n → IfSome (position f l) (λ row. row < n)
place_inside f l n e = by (position f l) refl
  where
    by : (o : P.Option ℕ) → position f l ≡ o → IfSome o (λ row. row < n)
    by P.None g = tt
    by (P.Some row) g = rw (← e) (position-Some f l row (pos 0) g).0

pub reading_row : (c : ℤ) (ts : List Term) (value : ℤ) → first_reading c ts value ≡ row_reading (length ts) (first_place (value -ℤ c) (linear_table (coefs ts)))
unfolding first_reading
reading_row c ts value =
    first_at (λ bits. eq_z (sum_of_bits c ts bits) value) [] rows
    ∙ ap (picked rows []) (sym (position_of (λ s. eq_z s value) (sum_of_bits c ts) (λ bits. eq_z (sum_of_bits c ts bits) value) rows (λ bits. refl)) ∙ ap (position (λ s. eq_z s value)) (sums_are c ts)
    ∙ position_of (λ s. eq_z s value) (λ v. c +ℤ v) (λ v. eq_z v (value -ℤ c)) table (shifted_test c value))
    ∙ row_bits (length ts) _ (place_inside (λ v. eq_z v (value -ℤ c)) table (2 ^ length ts) (linear_table-length (coefs ts) ∙ ap (λ n. 2 ^ n) (length-map ts (λ (t : Term). t.coef))))
  where
    rows : List (List ℕ)
    rows = assignments (length ts)

    table : List ℤ
    table = linear_table (coefs ts)
