-- Whatever the store holds, the text of its pruned network is short.
use Rattle.std.specs.Prelude.{◌≡◌, Bool, true, false, List, [], ◌∷◌, ◌++◌, map, ℕ, zero, suc, ◌+◌, ◌<◌, ◌≤◌, length, All}
use Rattle.std.proofs.Common.{sym, ap, ◌∙◌, append_assoc, append-nil, arith, length-append}
use Rattle.std.proofs.lemmas.List.{length-map, map-append}
use Rattle.laws.specs.Lists.{Each}
use Rattle.laws.specs.Test.{if◌then◌otherwise◌, both_left}
use Rattle.rules.specs.declared.Settings.{Settings}
use Rattle.rules.specs.declared.Wire.{Wire}
use Rattle.rules.specs.declared.Wire.TheVariants.{Const, Node}
use Rattle.rules.specs.Builder.{table_limits}
use Rattle.rules.specs.Circuit.{Name, Output}
use Rattle.rules.specs.CircuitText.{in_limits}
use Rattle.rules.specs.Cone.{Cone}
use Rattle.rules.specs.Mapper.{Outputs, map_outputs, pruned}
use Rattle.rules.specs.Network.{Term, LutNode, Input, Linear, Bootstrap, Network, member, node_at}
use Rattle.rules.specs.Store.{renumbered, renumbered_term, renumbered_node, renumbered_wire, renumbered_output, kept_from, live}
use Rattle.rules.specs.Writing.{nodes_text, outputs_text, network_text}
use Rattle.theorems.specs.Admissible.{net_of}
use Rattle.theorems.specs.SoundCircuits.{SoundSettings}
use Rattle.theorems.specs.TextLengths.{SmallTerms, SmallNode, SmallWire, SmallOutput, nodes_most, outputs_short}
use Rattle.mapped.specs.NetworkStatements.{output_names}
use Rattle.mapped.specs.PrunedNodes.{nodes_fewer}
use Rattle.mapped.specs.TextLength.{net_short}
use Rattle.mapped.specs.TextLines.{net_text}
use Rattle.mapped.specs.TextReadBack.{text_parts}
use Rattle.nodes.specs.declared.store.Store.{Store}
use Rattle.nodes.specs.Store.{store_of, store_few, node_within}
use Rattle.nodes.specs.View.{Fine, FineTerms}
use Rattle.forms.specs.declared.Output as O
use Rattle.forms.specs.Forms.{output_of}
use Rattle.gates.specs.Wired.{WireIn}
use Rattle.outputs.specs.Outputs.{AllIn}
use Rattle.outputs.specs.OutputsWalk.{started, mapped_read}
use Rattle.conclude.specs.Live.{wires_more}

-- ---- The outputs' names.

-- At most 32 names of at most 16 bytes.
pub record ShortNames (names : List Name) : Type 0 where
  pub few : length names ≤ 32
  pub short : All (λ (n : Name). length n ≤ 16) names

names_from : (s : Settings) (cones : List Cone) (os : List Output) (done : Outputs) → output_names (map_outputs s cones done os).outputs ≡ output_names done.outputs ++ output_names os
unfolding map_outputs
names_from s cones [] done = sym (append-nil (output_names done.outputs))
names_from s cones (o ∷ os) done =
    names_from s cones os _
    ∙ ap (λ l. l ++ output_names os) (map-append (λ (d : Output). d.name) done.outputs _)
    ∙ append_assoc (output_names done.outputs) (o.name ∷ []) (output_names os)

-- mapped outputs have the names that the circuit gives them
pub names_kept : (s : Settings) (cones : List Cone) (nodes : List LutNode) (os : List Output) (store : Store) (mapped : List O.Output)
    → mapped_read store mapped ≡ map_outputs s cones (started nodes) os → output_names (map output_of mapped) ≡ output_names os
unfolding mapped_read started
names_kept s cones nodes os store mapped e = ap (λ (d : Outputs). output_names d.outputs) e ∙ names_from s cones os (started nodes)

-- ---- What is kept is small: its new numbers are no more than the old ones.

number_fewer : (kept : List ℕ) (i : ℕ) → renumbered kept i ≤ i
unfolding renumbered
number_fewer kept zero = omega arith
number_fewer kept (suc i) = by (member i kept) (number_fewer kept i)
  where
    by : (b : Bool) → renumbered kept i ≤ i → (if b then 1 otherwise 0) + renumbered kept i ≤ suc i
    by true h = omega arith
    by false h = omega arith

terms_small : (kept : List ℕ) (ts : List Term) → FineTerms 672 ts → SmallTerms (map (renumbered_term kept) ts)
unfolding FineTerms SmallTerms renumbered_term
terms_small kept [] f = tt
terms_small kept (t ∷ ts) f = (f.0, omega (arith, f.1, number_fewer kept t.node), terms_small kept ts f.2)

node_small : (kept : List ℕ) (x : LutNode) → Fine 672 x → SmallNode (renumbered_node kept x)
unfolding Fine SmallNode renumbered_node
node_small kept (Input g) f = (f.0, f.2)
node_small kept (Linear c ts) f = (rw (length-map ts (renumbered_term kept)) f.0, f.1, terms_small kept ts f.2)
node_small kept (Bootstrap i table) f = (omega (arith, f.0, number_fewer kept i), f.1)

nodes_small : (kept : List ℕ) (i : ℕ) (xs : List LutNode) → ((k : ℕ) → k < length xs → Fine 672 (node_at xs k)) → Each SmallNode (kept_from kept i xs)
unfolding kept_from node_at
nodes_small kept i [] f = tt
nodes_small kept i (x ∷ xs) f = by (member i kept) (nodes_small kept (i + 1) xs (λ k l. f (suc k) (omega arith)))
  where
    by : (b : Bool) → Each SmallNode (kept_from kept (i + 1) xs)
        → Each SmallNode (if b then renumbered_node kept x ∷ kept_from kept (i + 1) xs otherwise kept_from kept (i + 1) xs)
    by true h = (node_small kept x (f 0 (omega arith)), h)
    by false h = h

wire_small : (kept : List ℕ) (w : Wire) → WireIn 672 w → SmallWire (renumbered_wire kept w)
unfolding SmallWire renumbered_wire
wire_small kept (Const b) h = omega arith
wire_small kept (Node i) h = omega (arith, number_fewer kept i)

outputs_small : (kept : List ℕ) (os : List Output) → AllIn 672 os → All (λ (n : Name). length n ≤ 16) (output_names os) → Each SmallOutput (map (renumbered_output kept) os)
unfolding renumbered_output
outputs_small kept [] a n = tt
outputs_small kept (o ∷ os) a n = (
  record { name = n 0 o.name (omega arith); wire = wire_small kept o.wire (a 0 o (omega arith)) },
  outputs_small kept os (λ k d h. a (suc k) d (omega arith)) (λ k d h. n (suc k) d (omega arith)),
)

-- ---- The text: at most 17 + 120 × 672 + 31 × 32 bytes.

pub text_short : (s : Settings) (os : List Output) (store : Store) → SoundSettings s → AllIn (length (store_of store)) os → ShortNames (output_names os)
    → length (network_text (pruned s (record { nodes = store_of store; outputs = os }))) ≤ 81649
unfolding pruned net_of in_limits
text_short s os store h a n =
    omega (
      arith,
      ap length (text_parts w),
      net_short (net_of w) (both_left (table_limits s.p s.m) _ h.limits) h.small,
      nodes_most w.nodes (nodes_small kept 0 (store_of store) (node_within store)),
      nodes_fewer kept (store_of store),
      store_few store,
      outputs_short w.outputs (outputs_small kept os (wires_more (length (store_of store)) 672 os (store_few store) a) n.short),
      n.few,
      length-map os (λ (o : Output). o.name),
      length-map os (renumbered_output kept),
      length-append (net_text (net_of w)) (nodes_text w.nodes ++ outputs_text w.outputs),
      length-append (nodes_text w.nodes) (outputs_text w.outputs),
    )
  where
    kept : List ℕ
    kept = live (store_of store) os

    w : Network
    w = pruned s (record { nodes = store_of store; outputs = os })
