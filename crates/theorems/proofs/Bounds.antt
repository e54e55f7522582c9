-- Sums within the bounds of their nodes (document 01, "Bounds of a node").
use Rattle.std.specs.Prelude.{◌≡◌, false, ◌||◌, ℕ, ◌<◌, ℤ, pos, length, get_or, ◌≤ℤ◌}
use mathlib.Core.List.{List, [], ◌∷◌}
use borrow.Author.Tests.{leb-false}
use Rattle.std.specs.Int.Signed.{≤ℤ_refl}
use Rattle.laws.specs.Test.{zero≢one, neither_left, neither_right}
use Rattle.rules.specs.Network.{Term, LutNode, Input, Linear, Bootstrap, is_linear, below0, above0, least_sum, greatest_sum, least_of, greatest_of, sum_from, node_at}
use Rattle.rules.specs.NetworkText.{sources, unknown, any_bad_source}
use Rattle.theorems.specs.Bounds.{ZeroOrOne, Bounded, below_times, times_above, add_le, bit-between}

-- ---- A sum of bits.

SourceBits : List ℤ → List Term → Type 0
SourceBits values [] = Unit {0}
SourceBits values (t ∷ ts) = ZeroOrOne (get_or values t.node (pos 0)) × SourceBits values ts

sum-least : (values : List ℤ) (ts : List Term) (a v : ℤ) → SourceBits values ts → a ≤ℤ v → least_sum a ts ≤ℤ sum_from values v ts
unfolding SourceBits least_sum sum_from
sum-least values [] a v b h = h
sum-least values (t ∷ ts) a v b h = sum-least values ts _ _ b.1 (add_le a (below0 t.coef) v _ h (below_times t.coef _ b.0))

sum-greatest : (values : List ℤ) (ts : List Term) (v a : ℤ) → SourceBits values ts → v ≤ℤ a → sum_from values v ts ≤ℤ greatest_sum a ts
unfolding SourceBits greatest_sum sum_from
sum-greatest values [] v a b h = h
sum-greatest values (t ∷ ts) v a b h = sum-greatest values ts _ _ b.1 (add_le v _ a (above0 t.coef) h (times_above t.coef _ b.0))

-- ---- Nodes whose bounds are 0..1.

pub bit-node : (x : LutNode) (v : ℤ) → is_linear x ≡ false → least_of x ≤ℤ v → v ≤ℤ greatest_of x → ZeroOrOne v
unfolding is_linear least_of greatest_of
bit-node (Input a) v e h k = bit-between v h k
bit-node (Linear c ts) v e h k = absurd (zero≢one (cc))
bit-node (Bootstrap i table) v e h k = bit-between v h k

-- A node that is no sum is a bit.
pub source_bit : (nodes : List LutNode) (values : List ℤ) (n : ℕ) → Bounded nodes values → n < length nodes → is_linear (node_at nodes n) ≡ false
    → ZeroOrOne (get_or values n (pos 0))
source_bit nodes values n b l e = bit-node (node_at nodes n) (get_or values n (pos 0)) e (b.least n l) (b.greatest n l)

module _ (ns : List LutNode) (values : List ℤ) (b : Bounded ns values) where
  -- a `lin` stands on `in` and `boot` nodes
  source_bits : (ts : List Term) → any_bad_source ns (sources ts) ≡ false → SourceBits values ts
  unfolding SourceBits any_bad_source sources unknown
  source_bits [] e = tt
  source_bits (t ∷ ts) e =
      let bad = unknown ns t.node || is_linear (node_at ns t.node) in
      let f = neither_left bad _ e in
      let i = leb-false (length ns) t.node (neither_left (unknown ns t.node) _ f) in (
        bit-node (node_at ns t.node) _ (neither_right (unknown ns t.node) _ f) (b.least _ i) (b.greatest _ i),
        source_bits ts (neither_right bad _ e),
      )

  pub sum_bounded : (c : ℤ) (ts : List Term) → any_bad_source ns (sources ts) ≡ false
      → (least_of (Linear c ts) ≤ℤ sum_from values c ts) × (sum_from values c ts ≤ℤ greatest_of (Linear c ts))
  unfolding least_of greatest_of
  sum_bounded c ts e =
      (sum-least values ts c c (source_bits ts e) (≤ℤ_refl c), sum-greatest values ts c c (source_bits ts e) (≤ℤ_refl c))
