-- A network of sums and bootstrap tables (document 01, "The text forms"; LutCircuit in the Rust), its measures and its run.
use Rattle.std.specs.Prelude.{Bool, true, false, ◌&&◌, ◌||◌, List, [], ◌∷◌, ◌++◌, map, ℕ, ◌+◌, ◌*◌, max, eqb, ℤ, pos, negsuc, nat_abs, ◌+ℤ◌, ◌*ℤ◌, length, get_or}
use Rattle.std.proofs.Math.Option
use Rattle.std.proofs.Math.Option.{Option, none, some}
use Rattle.laws.specs.Test.{if◌then◌otherwise◌}
use Rattle.rules.specs.declared.Limit.{Limit}
use Rattle.rules.specs.declared.Stats.{Stats}
use Rattle.rules.specs.declared.Wire.{Wire}
use Rattle.rules.specs.declared.Wire.TheVariants.{Const, Node}
use Rattle.rules.specs.Circuit.{Given, Output}
use Rattle.rules.specs.Rotation.{rotated, centre_of}

-- One summand: a coefficient times a node.
pub record Term : Type 0 where
  pub coef : ℤ
  pub node : ℕ

-- `(in NAME)` or `(in NAME W)`, `(lin CONST (COEF ID) ..)`, `(boot ID BITS)`.
pub data LutNode : Type 0 where
  Input : Given → LutNode
  Linear : ℤ → List Term → LutNode
  Bootstrap : ℕ → List ℕ → LutNode

-- Nodes count from 0 over all of them, inputs first.
pub record Network : Type 0 where
  pub p : ℕ
  pub m : ℕ
  pub norm : Limit
  pub nodes : List LutNode
  pub outputs : List Output

-- The node with number i, where there is one.
unfoldable pub node_at : List LutNode → ℕ → LutNode
node_at ns i = get_or ns i (Input (record { name = []; weight = 1 }))

-- ---- Bounds: the least and the greatest value that a node can have.

unfoldable pub below0 : ℤ → ℤ
below0 (pos a) = pos 0
below0 (negsuc a) = negsuc a

unfoldable pub above0 : ℤ → ℤ
above0 (pos a) = pos a
above0 (negsuc a) = pos 0

-- The sources of a `lin` are 0 or 1: its negative coefficients make the least sum, its positive ones the greatest.
unfoldable pub least_sum : ℤ → List Term → ℤ
least_sum c [] = c
least_sum c (t ∷ ts) = least_sum (c +ℤ below0 t.coef) ts

unfoldable pub greatest_sum : ℤ → List Term → ℤ
greatest_sum c [] = c
greatest_sum c (t ∷ ts) = greatest_sum (c +ℤ above0 t.coef) ts

-- 0..1 for `in` and `boot`; for `lin` the least and greatest sum.
unfoldable pub least_of : LutNode → ℤ
least_of (Input n) = pos 0
least_of (Linear c ts) = least_sum c ts
least_of (Bootstrap i table) = pos 0

unfoldable pub greatest_of : LutNode → ℤ
greatest_of (Input n) = pos 1
greatest_of (Linear c ts) = greatest_sum c ts
greatest_of (Bootstrap i table) = pos 1

-- ---- Norms, depths and statistics.

-- The weight of a source (document 02, S-6): an `in` its own, a `boot` 1.
unfoldable pub weight_of : LutNode → ℕ
weight_of (Input n) = n.weight
weight_of (Linear c ts) = 1
weight_of (Bootstrap i table) = 1

-- Norm of a sum over the nodes: each squared coefficient times its source's weight, added.
unfoldable pub norm : List LutNode → List Term → ℕ
norm nodes [] = 0
norm nodes (t ∷ ts) = (nat_abs t.coef * nat_abs t.coef) * weight_of (node_at nodes t.node) + norm nodes ts

-- An `in` or `boot` node counts its weight.
unfoldable pub node_norm : List LutNode → LutNode → ℕ
node_norm nodes (Input n) = weight_of (Input n)
node_norm nodes (Linear c ts) = norm nodes ts
node_norm nodes (Bootstrap i table) = weight_of (Bootstrap i table)

unfoldable pub is_input : LutNode → Bool
is_input (Input n) = true
is_input (Linear c ts) = false
is_input (Bootstrap i table) = false

unfoldable pub is_linear : LutNode → Bool
is_linear (Input n) = false
is_linear (Linear c ts) = true
is_linear (Bootstrap i table) = false

unfoldable pub is_bootstrap : LutNode → Bool
is_bootstrap (Input n) = false
is_bootstrap (Linear c ts) = false
is_bootstrap (Bootstrap i table) = true

unfoldable pub table_length : LutNode → ℕ
table_length (Input n) = 0
table_length (Linear c ts) = 0
table_length (Bootstrap i table) = length table

-- How many nodes are of a kind.
unfoldable pub count : (LutNode → Bool) → List LutNode → ℕ
count f [] = 0
count f (n ∷ ns) = (if f n then 1 otherwise 0) + count f ns

-- The largest measure of these, 0 where there is none.
unfoldable pub largest : {A : Type 0} → (A → ℕ) → List A → ℕ
largest f [] = 0
largest f (n ∷ ns) = max (f n) (largest f ns)

-- The nodes that `boot` nodes take, in order.
unfoldable pub boot_sources : List LutNode → List ℕ
boot_sources [] = []
boot_sources (Input n ∷ ns) = boot_sources ns
boot_sources (Linear c ts ∷ ns) = boot_sources ns
boot_sources (Bootstrap i table ∷ ns) = i ∷ boot_sources ns

unfoldable pub member : ℕ → List ℕ → Bool
member i [] = false
member i (j ∷ js) = eqb i j || member i js

-- How many different numbers there are.
unfoldable pub different : List ℕ → ℕ
different [] = 0
different (i ∷ is) = (if member i is then 0 otherwise 1) + different is

-- The depth of a node (document 02, S-7), by the depths of those before it: 0 for an input, the largest of its sources for a `lin`, one more than its
-- source for a `boot`.
unfoldable pub node_depth : (ℕ → ℕ) → LutNode → ℕ
node_depth before (Input n) = 0
node_depth before (Linear c ts) = largest (λ (t : Term). before t.node) ts
node_depth before (Bootstrap i table) = before i + 1

-- The nodes in turn, after the depths of those before them.
unfoldable pub depths_from : List ℕ → List LutNode → List ℕ
depths_from before [] = before
depths_from before (n ∷ ns) = depths_from (before ++ (node_depth (λ i. get_or before i 0) n ∷ [])) ns

-- One depth a node, in the order of the nodes.
unfoldable pub depths : List LutNode → List ℕ
depths nodes = depths_from [] nodes

unfoldable pub depth : List LutNode → ℕ → ℕ
depth nodes i = get_or (depths nodes) i 0

-- The largest of all nodes, those that no output needs too.
unfoldable pub largest_depth : List LutNode → ℕ
largest_depth nodes = largest (λ d. d) (depths nodes)

-- The centre of a node's table (document 02, S-10), with the network's P; 0 for a node that has none.
unfoldable pub node_centre : ℕ → LutNode → ℕ
node_centre P (Input n) = 0
node_centre P (Linear c ts) = 0
node_centre P (Bootstrap i table) = centre_of P table

-- The node is a table of this centre.
unfoldable pub has_centre : ℕ → ℕ → LutNode → Bool
has_centre P k n = is_bootstrap n && eqb (node_centre P n) k

unfoldable pub stats : Network → Stats
stats w =
    record {
      inputs = count is_input w.nodes;
      sums = count is_linear w.nodes;
      boots = count is_bootstrap w.nodes;
      sources = different (boot_sources w.nodes);
      longest = largest table_length w.nodes;
      norm = largest (node_norm w.nodes) w.nodes;
      outputs = length w.outputs;
      depth = largest_depth w.nodes;
      centre0 = count (has_centre w.p 0) w.nodes;
      centre1 = count (has_centre w.p 1) w.nodes;
      centre2 = count (has_centre w.p 2) w.nodes;
    }

-- ---- The network run: nodes in order, each to a whole number; none where a `boot` breaks off.

-- CONST plus each COEF times its node.
unfoldable pub sum_from : List ℤ → ℤ → List Term → ℤ
sum_from values c [] = c
sum_from values c (t ∷ ts) = sum_from values (c +ℤ (t.coef *ℤ get_or values t.node (pos 0))) ts

-- Inputs come first, so an input's number is its place among the bits.
unfoldable pub node_value : ℕ → List ℕ → List ℤ → LutNode → Option ℤ
node_value P bits values (Input n) = some (pos (get_or bits (length values) 0))
node_value P bits values (Linear c ts) = some (sum_from values c ts)
node_value P bits values (Bootstrap i table) = rotated P table (get_or values i (pos 0))

unfoldable pub with_value : Option ℤ → (ℤ → Option (List ℤ)) → Option (List ℤ)
with_value none next = none
with_value (some v) next = next v

unfoldable pub node_values : ℕ → List ℕ → List ℤ → List LutNode → Option (List ℤ)
node_values P bits values [] = some values
node_values P bits values (n ∷ ns) = with_value (node_value P bits values n) (λ v. node_values P bits (values ++ (v ∷ [])) ns)

unfoldable pub wire_value : List ℤ → Wire → ℤ
wire_value values (Const b) = pos b
wire_value values (Node i) = get_or values i (pos 0)

unfoldable pub output_values : List Output → List ℤ → List ℤ
output_values outputs values = map (λ (o : Output). wire_value values o.wire) outputs

-- One whole number an output, in the order of the text.
unfoldable pub network_run : Network → List ℕ → Option (List ℤ)
network_run w bits = Option.map (output_values w.outputs) (node_values w.p bits [] w.nodes)
