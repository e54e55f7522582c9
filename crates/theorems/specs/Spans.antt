-- The least and the greatest of some values, and that each value lies between them, so its offset from the least is below the span.
use Rattle.std.specs.Prelude.{◌≡◌, refl, List, [], ◌∷◌, ℕ, zero, suc, ◌+◌, ◌<◌, ◌≤◌, ℤ, pos, nat_abs, ◌-ℤ◌, length, get_or, drop, ◌≤ℤ◌}
use Rattle.std.proofs.Common.{⊎_elim, not-suc-le-zero, le_of_suc-le-suc, add-one, arith, drop_of_length-le}
use Rattle.std.proofs.Math.Seq.{drop-cons}
use Rattle.std.specs.Int.Signed.{lt_z}
use Rattle.laws.specs.Integer.{ints, abs_parts, sub_parts, one_part_zero}
use Rattle.laws.specs.Test.{if◌then◌otherwise◌, if_both, decide}
use Rattle.rules.specs.Span.{least_from, greatest_from, least, greatest, span}

-- the smaller and the larger of two
module _ (m v : ℤ) where
  smaller : ((if lt_z v m then v otherwise m) ≤ℤ m) × ((if lt_z v m then v otherwise m) ≤ℤ v)
  smaller = ⊎_elim (λ e. rw e (omega (arith, ints))) (λ e. rw e (omega (arith, ints))) (decide (lt_z v m))

  larger : (m ≤ℤ (if lt_z m v then v otherwise m)) × (v ≤ℤ (if lt_z m v then v otherwise m))
  larger = ⊎_elim (λ e. rw e (omega (arith, ints))) (λ e. rw e (omega (arith, ints))) (decide (lt_z m v))

least_from_le : (m : ℤ) (vs : List ℤ) → least_from m vs ≤ℤ m
unfolding least_from
least_from_le m [] = omega (arith, ints)
least_from_le m (v ∷ vs) = omega (arith, ints, least_from_le (if lt_z v m then v otherwise m) vs, (smaller m v).0)

least_from-at : (m : ℤ) (vs : List ℤ) (i : ℕ) → i < length vs → least_from m vs ≤ℤ get_or vs i (pos 0)
unfolding least_from
least_from-at m [] i h = absurd (not-suc-le-zero h)
least_from-at m (v ∷ vs) zero h = omega (arith, ints, least_from_le (if lt_z v m then v otherwise m) vs, (smaller m v).1)
least_from-at m (v ∷ vs) (suc i) h = least_from-at (if lt_z v m then v otherwise m) vs i (le_of_suc-le-suc h)

le_greatest_from : (m : ℤ) (vs : List ℤ) → m ≤ℤ greatest_from m vs
unfolding greatest_from
le_greatest_from m [] = omega (arith, ints)
le_greatest_from m (v ∷ vs) = omega (arith, ints, le_greatest_from (if lt_z m v then v otherwise m) vs, (larger m v).0)

at-greatest_from : (m : ℤ) (vs : List ℤ) (i : ℕ) → i < length vs → get_or vs i (pos 0) ≤ℤ greatest_from m vs
unfolding greatest_from
at-greatest_from m [] i h = absurd (not-suc-le-zero h)
at-greatest_from m (v ∷ vs) zero h = omega (arith, ints, le_greatest_from (if lt_z m v then v otherwise m) vs, (larger m v).1)
at-greatest_from m (v ∷ vs) (suc i) h = at-greatest_from (if lt_z m v then v otherwise m) vs i (le_of_suc-le-suc h)

pub least_le : (values : List ℤ) (i : ℕ) → i < length values → least values ≤ℤ get_or values i (pos 0)
unfolding least
least_le [] i h = absurd (not-suc-le-zero h)
least_le (v ∷ vs) zero h = least_from_le v vs
least_le (v ∷ vs) (suc i) h = least_from-at v vs i (le_of_suc-le-suc h)

pub le_greatest : (values : List ℤ) (i : ℕ) → i < length values → get_or values i (pos 0) ≤ℤ greatest values
unfolding greatest
le_greatest [] i h = absurd (not-suc-le-zero h)
le_greatest (v ∷ vs) zero h = le_greatest_from v vs
le_greatest (v ∷ vs) (suc i) h = at-greatest_from v vs i (le_of_suc-le-suc h)

-- what bounds every value bounds them too
least_from_bound : (b m : ℤ) (vs : List ℤ) → b ≤ℤ m → ((i : ℕ) → i < length vs → b ≤ℤ get_or vs i (pos 0)) → b ≤ℤ least_from m vs
unfolding least_from
least_from_bound b m [] h f = h
least_from_bound b m (v ∷ vs) h f = least_from_bound b (if lt_z v m then v otherwise m) vs (if_both (λ x. b ≤ℤ x) (lt_z v m) (f 0 (omega arith)) h) (λ i l. f (suc i) (omega arith))

greatest_from_bound : (b m : ℤ) (vs : List ℤ) → m ≤ℤ b → ((i : ℕ) → i < length vs → get_or vs i (pos 0) ≤ℤ b) → greatest_from m vs ≤ℤ b
unfolding greatest_from
greatest_from_bound b m [] h f = h
greatest_from_bound b m (v ∷ vs) h f = greatest_from_bound b (if lt_z m v then v otherwise m) vs (if_both (λ x. x ≤ℤ b) (lt_z m v) (f 0 (omega arith)) h) (λ i l. f (suc i) (omega arith))

pub least_bound : (b : ℤ) (values : List ℤ) → 0 < length values → ((i : ℕ) → i < length values → b ≤ℤ get_or values i (pos 0)) → b ≤ℤ least values
unfolding least
least_bound b [] h f = absurd (not-suc-le-zero h)
least_bound b (v ∷ vs) h f = least_from_bound b v vs (f 0 (omega arith)) (λ i l. f (suc i) (omega arith))

pub greatest_bound : (b : ℤ) (values : List ℤ) → 0 < length values → ((i : ℕ) → i < length values → get_or values i (pos 0) ≤ℤ b) → greatest values ≤ℤ b
unfolding greatest
greatest_bound b [] h f = absurd (not-suc-le-zero h)
greatest_bound b (v ∷ vs) h f = greatest_from_bound b v vs (f 0 (omega arith)) (λ i l. f (suc i) (omega arith))

pub span_is : (values : List ℤ) → 0 < length values → span values ≡ nat_abs (greatest values -ℤ least values) + 1
unfolding span
span_is [] h = absurd (not-suc-le-zero h)
span_is (v ∷ vs) h = refl

pub offset_within : (v l g : ℤ) → l ≤ℤ v → v ≤ℤ g → nat_abs (v -ℤ l) ≤ nat_abs (g -ℤ l)
offset_within v l g h k =
    omega
    (arith, ints, abs_parts (v -ℤ l), abs_parts (g -ℤ l), sub_parts v l, sub_parts g l, one_part_zero (v -ℤ l), one_part_zero (g -ℤ l))

-- a value's offset is an index of a table as long as the span
pub offset_lt : (values : List ℤ) (i : ℕ) → i < length values → nat_abs (get_or values i (pos 0) -ℤ least values) < span values
offset_lt values i h =
    omega
    (arith, span_is values (omega arith), offset_within (get_or values i (pos 0)) (least values) (greatest values) (least_le values i h) (le_greatest values i h))

-- ---- a loop over the values: its start, a turn, and its end
pub least_start : (values : List ℤ) → 0 < length values → least_from (get_or values 0 (pos 0)) (drop 1 values) ≡ least values
unfolding least
least_start [] h = absurd (not-suc-le-zero h)
least_start (v ∷ vs) h = refl

pub greatest_start : (values : List ℤ) → 0 < length values → greatest_from (get_or values 0 (pos 0)) (drop 1 values) ≡ greatest values
unfolding greatest
greatest_start [] h = absurd (not-suc-le-zero h)
greatest_start (v ∷ vs) h = refl

module _ (values : List ℤ) (m : ℤ) (i : ℕ) where
  pub least-turn : (x r : ℤ) → i < length values → x ≡ get_or values i (pos 0) → r ≡ (if lt_z x m then x otherwise m)
      → least_from r (drop (i + 1) values) ≡ least_from m (drop i values)
  unfolding least_from
  least-turn x r h e f = rw (add-one, drop-cons values i (pos 0) h, f, e)

  pub greatest-turn : (x r : ℤ) → i < length values → x ≡ get_or values i (pos 0) → r ≡ (if lt_z m x then x otherwise m)
      → greatest_from r (drop (i + 1) values) ≡ greatest_from m (drop i values)
  unfolding greatest_from
  greatest-turn x r h e f = rw (add-one, drop-cons values i (pos 0) h, f, e)

  pub least_end : length values ≤ i → least_from m (drop i values) ≡ m
  unfolding least_from
  least_end h = rw (drop_of_length-le values {i = i} h)

  pub greatest_end : length values ≤ i → greatest_from m (drop i values) ≡ m
  unfolding greatest_from
  greatest_end h = rw (drop_of_length-le values {i = i} h)
