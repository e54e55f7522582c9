-- How long a network's text is: names within 16 bytes, numbers below 1000, sums of 11 terms, tables of 32 bits.
use Rattle.std.specs.Prelude.{◌≡◌, List, [], ◌∷◌, ◌++◌, ℕ, suc, ◌+◌, ◌*◌, ◌<◌, ◌≤◌, ℤ, pos, negsuc, nat_abs, length}
use Rattle.std.proofs.Common.{⊎_elim, arith, length-append}
use Rattle.laws.specs.Lists.{Each}
use Rattle.laws.specs.Test.{if◌then◌otherwise◌, eq-or-ne}
use Rattle.rules.specs.declared.Limit.{Limit}
use Rattle.rules.specs.declared.Limit.TheVariants.{Unlimited, AtMost}
use Rattle.rules.specs.declared.Wire.{Wire}
use Rattle.rules.specs.declared.Wire.TheVariants.{Const, Node}
use Rattle.rules.specs.Circuit.{Output}
use Rattle.rules.specs.Form.{bytes}
use Rattle.rules.specs.Network.{Term, LutNode, Input, Linear, Bootstrap, is_linear, count}
use Rattle.rules.specs.Writing.{digits, signed_text, bits_text, wire_text, limit_text, terms_text, weight_text, node_text, nodes_text, output_text, outputs_text}
use Rattle.theorems.specs.Counts.{count_most, one_or_none}
use Rattle.theorems.specs.Decimals.{two_digits, three_digits, four_digits}
use Rattle.theorems.specs.Pieces.{one_unwritten, weight-written, bits-length}
use Rattle.theorems.specs.SoundCircuits.{SmallLimit}
use Rattle.theorems.specs.Weights.{GoodWeight}

-- ---- What is small.

unfoldable pub SmallTerms : List Term → Type 0
SmallTerms [] = Unit {0}
SmallTerms (t ∷ ts) = (nat_abs t.coef ≤ 31) × (t.node < 1000) × SmallTerms ts

unfoldable pub SmallNode : LutNode → Type 0
SmallNode (Input g) = (length g.name ≤ 16) × GoodWeight g.weight
SmallNode (Linear c ts) = (length ts ≤ 11) × (nat_abs c ≤ 31) × SmallTerms ts
SmallNode (Bootstrap j table) = (j < 1000) × (length table ≤ 32)

unfoldable pub SmallWire : Wire → Type 0
SmallWire (Const b) = b < 1000
SmallWire (Node i) = i < 1000

pub record SmallOutput (o : Output) : Type 0 where
  pub name : length o.name ≤ 16
  pub wire : SmallWire o.wire

-- ---- Pieces.

signed_short : (z : ℤ) → nat_abs z ≤ 31 → length (signed_text z) ≤ 3
unfolding signed_text
signed_short (pos n) h = omega (arith, two_digits n (omega arith))
signed_short (negsuc n) h = omega (arith, two_digits (suc n) (omega arith))

pub limit_short : (l : Limit) → SmallLimit l → length (limit_text l) ≤ 4
unfolding limit_text SmallLimit
limit_short Unlimited h = omega arith
limit_short (AtMost n) h = four_digits n (omega arith)

weight_short : (w : ℕ) → GoodWeight w → length (weight_text w) ≤ 3
unfolding GoodWeight
weight_short w g =
    let h = g.1 in
    ⊎_elim (λ (q : w ≡ 1). rw (q, one_unwritten) (omega arith)) (λ (q : w ≡ 1 → ⊥). rw (weight-written w q) (omega (arith, two_digits w (omega arith)))) (eq-or-ne w 1)

wire_short : (w : Wire) → SmallWire w → length (wire_text w) ≤ 7
unfolding wire_text SmallWire
wire_short (Const b) h = omega (arith, length-append (digits b) (bytes ")"), three_digits b h)
wire_short (Node i) h = omega (arith, length-append (digits i) (bytes ")"), three_digits i h)

terms_short : (ts : List Term) → SmallTerms ts → length (terms_text ts) ≤ 10 * length ts
unfolding terms_text SmallTerms
terms_short [] s = omega arith
terms_short (t ∷ ts) s =
    omega (
      arith,
      signed_short t.coef s.0,
      three_digits t.node s.1,
      terms_short ts s.2,
      length-append (signed_text t.coef ++ bytes " " ++ digits t.node ++ bytes ")") (terms_text ts),
      length-append (signed_text t.coef ++ bytes " " ++ digits t.node) (bytes ")"),
      length-append (signed_text t.coef ++ bytes " ") (digits t.node),
      length-append (signed_text t.coef) (bytes " "),
    )

-- ---- Lines.

-- at most 120 bytes for a sum, 44 for another node
node_short : (x : LutNode) → SmallNode x → length (node_text x) ≤ 44 + 76 * (if is_linear x then 1 otherwise 0)
unfolding node_text is_linear SmallNode
node_short (Input g) s =
    omega (arith, s.0, weight_short g.weight s.1, length-append (g.name ++ weight_text g.weight) (bytes ")\n"), length-append g.name (weight_text g.weight))
node_short (Linear c ts) s =
    omega (
      arith,
      s.0,
      signed_short c s.1,
      terms_short ts s.2,
      length-append (signed_text c ++ terms_text ts) (bytes ")\n"),
      length-append (signed_text c) (terms_text ts),
    )
node_short (Bootstrap j table) s =
    omega (
      arith,
      s.1,
      three_digits j s.0,
      bits-length table,
      length-append (digits j ++ bytes " " ++ bits_text table) (bytes ")\n"),
      length-append (digits j ++ bytes " ") (bits_text table),
      length-append (digits j) (bytes " "),
    )

pub node_most : (x : LutNode) → SmallNode x → length (node_text x) ≤ 120
node_most x s = omega (arith, node_short x s, one_or_none (is_linear x))

pub nodes_short : (xs : List LutNode) → Each SmallNode xs → length (nodes_text xs) ≤ 44 * length xs + 76 * count is_linear xs
unfolding nodes_text count
nodes_short [] s = omega arith
nodes_short (x ∷ xs) s = omega (arith, node_short x s.0, nodes_short xs s.1, length-append (node_text x) (nodes_text xs))

pub nodes_most : (xs : List LutNode) → Each SmallNode xs → length (nodes_text xs) ≤ 120 * length xs
nodes_most xs s = omega (arith, nodes_short xs s, count_most is_linear xs)

output_short : (o : Output) → SmallOutput o → length (output_text o) ≤ 31
unfolding output_text
output_short o s =
    omega (
      arith,
      s.name,
      wire_short o.wire s.wire,
      length-append (o.name ++ bytes " " ++ wire_text o.wire) (bytes ")\n"),
      length-append (o.name ++ bytes " ") (wire_text o.wire),
      length-append o.name (bytes " "),
    )

pub outputs_short : (os : List Output) → Each SmallOutput os → length (outputs_text os) ≤ 31 * length os
unfolding outputs_text
outputs_short [] s = omega arith
outputs_short (o ∷ os) s = omega (arith, output_short o s.0, outputs_short os s.1, length-append (output_text o) (outputs_text os))
