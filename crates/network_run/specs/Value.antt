-- The value of one node, read off its table where a rotation gives that.
use Rattle.std.specs.Prelude as P
use Rattle.std.specs.Prelude.{◌≡◌, Bool, true, false, List, [], ℕ, ◌+◌, ◌*◌, ◌<◌, ◌≤◌, T, ltb, ℤ, pos, negsuc, nat_abs, ◌+ℤ◌, ◌*ℤ◌, length, get_or, drop, All}
use Rattle.std.proofs.Math.Path.{refl}
use Rattle.std.proofs.Common.{sym, ◌∙◌, true≢false, ⊎_elim, arith, lt-ltb, le-ltb, drop_of_length-le, add-one, drop-cons, SFits, w64}
use Rattle.std.proofs.lemmas.List.{length-map, get_or-map}
use borrow.Author.Tests.{le-leb}
use Rattle.std.specs.Int.Signed.{lt_z}
use Rattle.std.proofs.Math.Option.{Option, none, some}
use Rattle.laws.specs.Integer.{plus, minus, lt_z_true, lt_z_false, abs_add, abs_mul_le, fits_abs}
use Rattle.laws.specs.Test.{if◌then◌otherwise◌, if_both, is_some, lt_or_le, is_T}
use Rattle.rules.specs.Network.{Term, LutNode, Input, Linear, Bootstrap, node_at, sum_from, node_value}
use Rattle.rules.specs.Rotation.{centre, rotatable, rotated}
use Rattle.rules.specs.Runs.{all_bits}
use Rattle.theorems.specs.Bits.{all-bits_of}
use Rattle.theorems.specs.RotationRule.{rotation_rule}
use Rattle.nodes.specs.declared.node.Term as C
use Rattle.nodes.specs.declared.store.Store.{Store}
use Rattle.nodes.specs.Seen.{term_below}
use Rattle.nodes.specs.Store.{store_of, node_fine}
use Rattle.nodes.specs.View.{term, term_of, terms_seen, table_in, Fine}

abbrev pub value_of : P.Option ℤ → Option ℤ
value_of (P.Some v) = some v
value_of P.None = none

abbrev pub SmallValue : P.Option ℤ → Type 0
SmallValue (P.Some v) = nat_abs v ≤ 255
SmallValue P.None = Unit {0}

-- The nodes that a sum takes are bytes.
pub record SmallSources (values : List ℤ) (ts : List Term) : Type 0 where
  pub small : All (λ (t : Term). nat_abs (get_or values t.node (pos 0)) ≤ 255) ts

-- A rotation of period P gives the node's table, if it has one.
unfoldable pub turns : ℕ → LutNode → Bool
turns P (Input g) = true
turns P (Linear c ts) = true
turns P (Bootstrap i table) = rotatable P table

-- The table read off; it breaks off outside.
unfoldable pub looked : List ℕ → ℤ → Option ℤ
looked table (pos v) = if ltb v (length table) then some (pos (get_or table v 0)) otherwise none
looked table (negsuc v) = none

-- The value of a node behind these.
unfoldable pub value_at : List ℕ → List ℤ → LutNode → Option ℤ
value_at bits values (Input g) = some (pos (get_or bits (length values) 0))
value_at bits values (Linear c ts) = some (sum_from values c ts)
value_at bits values (Bootstrap j table) = looked table (get_or values j (pos 0))

-- ---- laws: it is the definition's value

looked_is : (P : ℕ) (table : List ℕ) (v : ℤ) → rotatable P table ≡ true → looked table v ≡ rotated P table v
unfolding looked rotated
looked_is P table (negsuc a) t = refl
looked_is P table (pos a) t = ⊎_elim (λ h. inside h) (λ h. outside h) (lt_or_le a (length table))
  where
    inside : a < length table → looked table (pos a) ≡ rotated P table (pos a)
    inside h =
        let r = rotation_rule P table in
        let l : looked table (pos a) ≡ some (pos (get_or table a 0)) = rw (lt-ltb a (length table) h) in
        l ∙ sym (r.boots (r.decides.0 (is_T (rotatable P table) t)) a h)

    outside : length table ≤ a → looked table (pos a) ≡ rotated P table (pos a)
    outside h = rw (le-ltb a (length table) h)

pub value_is : (P : ℕ) (bits : List ℕ) (values : List ℤ) (n : LutNode) → turns P n ≡ true → value_at bits values n ≡ node_value P bits values n
unfolding turns value_at node_value
value_is P bits values (Input g) t = refl
value_is P bits values (Linear c ts) t = refl
value_is P bits values (Bootstrap j table) t = looked_is P table (get_or values j (pos 0)) t

-- no rotation gives the table: it breaks off
centre_none : (P : ℕ) (table : List ℕ) → rotatable P table ≡ false → centre P table ≡ none
unfolding rotatable
centre_none P table = by (centre P table)
  where
    by : (o : Option ℕ) → is_some o ≡ false → o ≡ none
    by none e = refl
    by (some n) e = absurd (true≢false e)

rotated_none : (P : ℕ) (table : List ℕ) (v : ℤ) → rotatable P table ≡ false → rotated P table v ≡ none
unfolding rotated
rotated_none P table (pos a) h = rw (centre_none P table h) (if_both (λ (o : Option ℤ). o ≡ none) (ltb a (length table)) refl refl)
rotated_none P table (negsuc a) h = refl

pub value_none : (P : ℕ) (bits : List ℕ) (values : List ℤ) (n : LutNode) → turns P n ≡ false → node_value P bits values n ≡ none
unfolding turns node_value
value_none P bits values (Input g) t = absurd (true≢false t)
value_none P bits values (Linear c ts) t = absurd (true≢false t)
value_none P bits values (Bootstrap j table) t = rotated_none P table (get_or values j (pos 0)) t

-- ---- laws: by the code's tests

module _ (table : List ℕ) where
  pub looked_below : (v : ℤ) → lt_z v (pos 0) ≡ true → none ≡ looked table v
  unfolding looked plus minus
  looked_below (pos a) h = absurd (omega (arith, lt_z_true (pos a) (pos 0) h))
  looked_below (negsuc a) h = refl

  pub looked_past : (v : ℤ) → length table ≤ nat_abs v → none ≡ looked table v
  unfolding looked
  looked_past (pos a) k = rw (le-ltb a (length table) k)
  looked_past (negsuc a) k = refl

  pub looked-at : (v x : ℤ) → lt_z v (pos 0) ≡ false → nat_abs v < length table → x ≡ pos (get_or table (nat_abs v) 0) → some x ≡ looked table v
  unfolding looked plus minus
  looked-at (pos a) x h k e = rw (lt-ltb a (length table) k, e)
  looked-at (negsuc a) x h k e = absurd (omega (arith, lt_z_false (negsuc a) (pos 0) h))

pub ruleset looking = (looked_below, looked_past, looked-at)

-- ---- laws: a sum, term by term

module _ (values : List ℤ) (ts : List C.Term) where
  -- the terms from k on added to c
  unfoldable pub sum_at : ℤ → ℕ → ℤ
  sum_at c k = sum_from values c (terms_seen (drop k ts))

  pub sum_start : (c : ℤ) → sum_from values c (terms_seen ts) ≡ sum_at c 0
  unfolding sum_at
  sum_start c = refl

  pub sum_end : (c : ℤ) (k : ℕ) → length ts ≤ k → sum_at c k ≡ c
  unfolding sum_at sum_from terms_seen
  sum_end c k h = rw (drop_of_length-le ts {i = k} h)

  module _ (k : ℕ) (t : C.Term) (h : k < length ts) where
    pub sum_next : (c : ℤ) → sum_at c k ≡ sum_at (c +ℤ ((get_or ts k t).coef *ℤ get_or values (get_or ts k t).node (pos 0))) (k + 1)
    unfolding sum_at sum_from terms_seen term
    sum_next c = rw (drop-cons ts k t h, add-one k) refl

    pub source_small : SmallSources values (terms_seen ts) → nat_abs (get_or values (get_or ts k t).node (pos 0)) ≤ 255
    unfolding terms_seen term
    source_small s = rw (get_or-map term_of ts k t (term_of t) h) at (s.small k (term_of t) (rw length-map h))

-- a sum of at most 11 terms stays far within 64 bits
module _ (c v : ℤ) (h : nat_abs c ≤ 31) (l : nat_abs v ≤ 255) where
  pub product_small : nat_abs (c *ℤ v) ≤ 7905
  product_small = abs_mul_le c v h l

  pub product_fits : SFits w64 (c *ℤ v)
  product_fits = fits_abs (c *ℤ v) (omega (arith, product_small))

  module _ (s : ℤ) (k : ℕ) (near : nat_abs s ≤ 31 + 7905 * k) where
    pub sum_small : nat_abs (s +ℤ (c *ℤ v)) ≤ 31 + 7905 * (k + 1)
    sum_small = omega (arith, product_small, abs_add s (c *ℤ v))

    pub sum_fits : k < 11 → SFits w64 (s +ℤ (c *ℤ v))
    sum_fits b = fits_abs (s +ℤ (c *ℤ v)) (omega (arith, sum_small))

pub ruleset summing = (sum_start, sum_end, term_below)

-- ---- laws: a store's tables

bits_in : (i : ℕ) (n : LutNode) → Fine i n → T (all_bits (table_in n))
unfolding Fine table_in
bits_in i (Input g) f = all-bits_of [] (λ k l. absurd (omega arith))
bits_in i (Linear c ts) f = all-bits_of [] (λ k l. absurd (omega arith))
bits_in i (Bootstrap j table) f = all-bits_of table (λ k l. f.2 k)

pub table_bits : (s : Store) (i : ℕ) (table : List ℕ) → i < length (store_of s) → table ≡ table_in (node_at (store_of s) i) → T (all_bits table)
table_bits s i table h e = rw e (bits_in i (node_at (store_of s) i) (node_fine s i h))

-- a node without a table turns as no bits do
pub turns_table : (P : ℕ) (n : LutNode) → rotatable P (table_in n) ≡ turns P n
unfolding turns table_in rotatable centre
turns_table P (Input g) = rw (le-leb 0 P (omega arith)) refl
turns_table P (Linear c ts) = rw (le-leb 0 P (omega arith)) refl
turns_table P (Bootstrap j table) = refl
