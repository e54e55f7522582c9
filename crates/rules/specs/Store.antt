-- The node store (document 01, "src/lut.rs"; `LutCircuit` and `bootstrap_cone` in the Rust): a list of nodes, equal nodes shared.
use Rattle.std.specs.Prelude.{Bool, true, false, ◌&&◌, not, List, [], ◌∷◌, ◌++◌, map, ℕ, zero, suc, ◌+◌, leb, ltb, eqb, ℤ, pos, neg_ℤ, nat_abs, length}
use Rattle.std.proofs.Math.Option.{Option, none, some}
use Rattle.laws.specs.Integer.{eq_z}
use Rattle.laws.specs.Select.{select, any, all}
use Rattle.laws.specs.Test.{if◌then◌otherwise◌}
use Rattle.rules.specs.declared.Settings.{Settings}
use Rattle.rules.specs.declared.Wire.{Wire}
use Rattle.rules.specs.declared.Wire.TheVariants.{Const, Node}
use Rattle.rules.specs.Circuit.{Output}
use Rattle.rules.specs.CircuitText.{same_name}
use Rattle.rules.specs.Cone.{Cone, identity, values, terms, bootstrap_table, fits, Candidate, best, cone_order_key}
use Rattle.rules.specs.Network.{Term, LutNode, Input, Linear, Bootstrap, node_at, member, boot_sources}
use Rattle.rules.specs.NetworkText.{sources}
use Rattle.rules.specs.Span.{least}

-- ---- Sharing.

unfoldable pub same_terms : List Term → List Term → Bool
same_terms [] [] = true
same_terms [] (u ∷ us) = false
same_terms (t ∷ ts) [] = false
same_terms (t ∷ ts) (u ∷ us) = let r = same_terms ts us in (eq_z t.coef u.coef && eqb t.node u.node) && r

-- Nodes are equal in the order of their terms too.
unfoldable pub same_node : LutNode → LutNode → Bool
same_node (Input n) (Input m) = same_name n.name m.name && eqb n.weight m.weight
same_node (Input n) (Linear d us) = false
same_node (Input n) (Bootstrap j u) = false
same_node (Linear c ts) (Input m) = false
same_node (Linear c ts) (Linear d us) = eq_z c d && same_terms ts us
same_node (Linear c ts) (Bootstrap j u) = false
same_node (Bootstrap i t) (Input m) = false
same_node (Bootstrap i t) (Linear d us) = false
same_node (Bootstrap i t) (Bootstrap j u) = eqb i j && same_name t u

-- cache.get: the number of the first node equal to n; as many as there are nodes where none is.
unfoldable pub number_of : LutNode → List LutNode → ℕ
number_of n [] = 0
number_of n (m ∷ ms) = let r = suc (number_of n ms) in if same_node n m then 0 otherwise r

-- intern: n is among the nodes, or is appended.
unfoldable pub intern : LutNode → List LutNode → List LutNode
intern n nodes = if ltb (number_of n nodes) (length nodes) then nodes otherwise nodes ++ (n ∷ [])

-- ---- Sums.

unfoldable pub is_used : Term → Bool
is_used t = not (eqb (nat_abs t.coef) 0)

-- One more among terms that are sorted by node.
unfoldable pub insert : Term → List Term → List Term
insert t [] = t ∷ []
insert t (u ∷ us) = let r = insert t us in if leb t.node u.node then t ∷ u ∷ us otherwise u ∷ r

unfoldable pub sorted : List Term → List Term
sorted [] = []
sorted (t ∷ ts) = insert t (sorted ts)

-- linear: with many tables a sum, terms that are not 0, sorted by node; otherwise as the support has them.
unfoldable pub linear_terms : Bool → List Term → List Term
linear_terms many ts = if many then sorted (select is_used ts) otherwise ts

-- The node that a cone is bootstrapped from: its values less the least one.
unfoldable pub linear_of : Settings → Cone → LutNode
linear_of s c = Linear (neg_ℤ (least (values c))) (linear_terms s.many (terms c))

-- coefficient_pair: the coefficient of a node, 0 where it is not among the terms.
unfoldable pub coefficient_of : List Term → ℕ → ℤ
coefficient_of [] n = pos 0
coefficient_of (t ∷ ts) n = let r = coefficient_of ts n in if eqb t.node n then t.coef otherwise r

-- ---- What is bootstrapped already.

-- bootstrap_inputs: the nodes that are bootstrapped, in the order of their bootstraps.
unfoldable pub bootstrap_inputs : List LutNode → List LutNode
bootstrap_inputs nodes = map (node_at nodes) (boot_sources nodes)

-- has_bootstrap
unfoldable pub has_bootstrap : List LutNode → LutNode → Bool
has_bootstrap nodes n = any (same_node n) (bootstrap_inputs nodes)

unfoldable pub terms_of : LutNode → List Term
terms_of (Input n) = []
terms_of (Linear c ts) = ts
terms_of (Bootstrap i table) = []

-- The sum has these sources and no other.
unfoldable pub same_sources : List ℕ → List Term → Bool
same_sources support ts = eqb (length support) (length ts) && all (λ n. member n (sources ts)) support

-- bootstrap_forms: the bootstrapped sums of exactly these sources, in the order of their bootstraps.
unfoldable pub bootstrap_forms : List LutNode → List ℕ → List (List Term)
bootstrap_forms nodes support = select (same_sources support) (map terms_of (bootstrap_inputs nodes))

-- reusable_linear_coefficients: the cone with the coefficients of such a sum, in the order of its support.
unfoldable pub with_form : Cone → List Term → Cone
with_form c ts = record { support = c.support; coefficients = map (coefficient_of ts) c.support; truth = c.truth }

unfoldable pub ranked : List LutNode → Cone → Candidate
ranked nodes c = record { score = cone_order_key nodes c; cone = c }

unfoldable pub cone_or : Cone → Option Candidate → Cone
cone_or c none = c
cone_or c (some d) = d.cone

-- reusable_cone_coefficients: with many tables a sum, the cone by the first form of the least span and norm that fits, if there is one.
unfoldable pub realigned : Settings → List LutNode → Cone → Cone
realigned s nodes c =
    let forms = select (fits s nodes) (map (with_form c) (bootstrap_forms nodes c.support)) in
    let r = cone_or c (best (map (ranked nodes) forms)) in
    if s.many then r otherwise c

-- ---- Bootstrapping.

-- A cone, and the store that has its sources.
pub record Stored : Type 0 where
  pub nodes : List LutNode
  pub cone : Cone

-- The sum and the bootstrap are interned.
unfoldable pub bootstrapped : Settings → List LutNode → Cone → List ℕ → Stored
bootstrapped s nodes c table =
    let linear = linear_of s c in
    let with_linear = intern linear nodes in
    let boot = Bootstrap (number_of linear with_linear) table in
    let with_boot = intern boot with_linear in
    record { nodes = with_boot; cone = identity (number_of boot with_boot) }

-- bootstrap_cone: a cone of no source or one source stays as it was.
unfoldable pub bootstrap_cone : Settings → List LutNode → Cone → Stored
bootstrap_cone s nodes c =
    let d = realigned s nodes c in
    let r = bootstrapped s nodes d (bootstrap_table s.p d) in
    if leb (length c.support) 1 then record { nodes = nodes; cone = c } otherwise r

-- ---- prune: what the outputs need is kept, in order, and renumbered.

unfoldable pub needs : LutNode → List ℕ
needs (Input n) = []
needs (Linear c ts) = sources ts
needs (Bootstrap i table) = i ∷ []

unfoldable pub wire_needs : Wire → List ℕ
wire_needs (Const b) = []
wire_needs (Node i) = i ∷ []

unfoldable pub output_needs : List Output → List ℕ
output_needs [] = []
output_needs (o ∷ os) = wire_needs o.wire ++ output_needs os

-- Node i - 1, if it is wanted, wants what it needs; then those before it.
unfoldable pub wanted_below : ℕ → List LutNode → List ℕ → List ℕ
wanted_below zero nodes wanted = wanted
wanted_below (suc i) nodes wanted = wanted_below i nodes (if member i wanted then needs (node_at nodes i) ++ wanted otherwise wanted)

unfoldable pub live : List LutNode → List Output → List ℕ
live nodes outputs = wanted_below (length nodes) nodes (output_needs outputs)

-- The new number of node i: how many of those before it are kept.
unfoldable pub renumbered : List ℕ → ℕ → ℕ
renumbered kept zero = 0
renumbered kept (suc i) = (if member i kept then 1 otherwise 0) + renumbered kept i

unfoldable pub renumbered_term : List ℕ → Term → Term
renumbered_term kept t = record { coef = t.coef; node = renumbered kept t.node }

unfoldable pub renumbered_node : List ℕ → LutNode → LutNode
renumbered_node kept (Input n) = Input n
renumbered_node kept (Linear c ts) = Linear c (map (renumbered_term kept) ts)
renumbered_node kept (Bootstrap i table) = Bootstrap (renumbered kept i) table

unfoldable pub renumbered_wire : List ℕ → Wire → Wire
renumbered_wire kept (Const b) = Const b
renumbered_wire kept (Node i) = Node (renumbered kept i)

unfoldable pub renumbered_output : List ℕ → Output → Output
renumbered_output kept o = record { name = o.name; wire = renumbered_wire kept o.wire }

-- The kept ones of the nodes from number i on.
unfoldable pub kept_from : List ℕ → ℕ → List LutNode → List LutNode
kept_from kept i [] = []
kept_from kept i (n ∷ ns) = let r = kept_from kept (i + 1) ns in if member i kept then renumbered_node kept n ∷ r otherwise r
