-- Both ways: what is written is the definition's text, and it is short.
use Rattle.std.specs.Prelude as P
use Rattle.std.specs.Prelude.{◌≡◌, refl, true, false, ℕ, zero, suc, ◌<◌, ◌≤◌, eqb, All, Some, None}
use Rattle.std.proofs.Math.Path.{sym, ap, ap₂, subst}
use Rattle.std.proofs.Common.{◌∙◌, not-suc-le-zero, le_of_suc-le-suc}
use mathlib.Core.List.{List, [], ◌∷◌, ◌++◌, map, append_assoc}
use native.Mathlib.Omega.{arith}
use Rattle.std.proofs.Math.ListN.{length, get_or, length-append, length-map}
use Rattle.laws.specs.Lists.{Each}
use Rattle.laws.specs.Test.{if_both}
use Rattle.rules.specs.declared.Wire.{Wire}
use Rattle.rules.specs.declared.Wire.TheVariants.{Const, Node}
use Rattle.rules.specs.Circuit.{Output}
use Rattle.rules.specs.CircuitText.{no_node}
use Rattle.rules.specs.Converter.{node_lines, lines_of, line2_text, lines2_text, network_text2}
use Rattle.rules.specs.Edition2.{Line2, Plain}
use Rattle.rules.specs.Form.{bytes}
use Rattle.rules.specs.Network as R
use Rattle.rules.specs.Network.{LutNode, Input, Linear, Bootstrap, member, node_at}
use Rattle.rules.specs.NetworkText.{Net, NetLine, NodeLine, OutLine}
use Rattle.rules.specs.Regroup.{order, place_in, moved_node, moved_output, regrouped, reordered}
use Rattle.rules.specs.Writing.{digits, limit_text, nodes_text, output_text, outputs_text, network_text}
use Rattle.theorems.specs.Admissible.{Passes, NodesPass, net_of, Admissible, boot_passes}
use Rattle.theorems.specs.Bits.{all-bits_of}
use Rattle.theorems.specs.BuilderExact.{limits_period, limits_most}
use Rattle.theorems.specs.Centres.{centre_most}
use Rattle.theorems.specs.LineBits.{WireBit}
use Rattle.theorems.specs.SoundCircuits.{SmallLimit}
use Rattle.theorems.specs.TextLengths.{SmallNode, SmallWire, SmallOutput, nodes_most, outputs_short}
use Rattle.forms.specs.declared.Net as F
use Rattle.forms.specs.declared.Output as O
use Rattle.forms.specs.Forms.{output_of}
use Rattle.nodes.specs.declared.store.Store.{Store}
use Rattle.nodes.specs.Store.{store_of, store_few, node_fine, store_ordered}
use Rattle.nodes.specs.View.{Fine}
use Rattle.lines.specs.Lines.{net_text}
use Rattle.lines.specs.Lines2.{net2_text}
use Rattle.lines.specs.Put.{Room}
use Rattle.writer.specs.Live.{NewNumbers, new_node, live_nodes, Sourced}
use Rattle.writer.specs.Outputs.{new_wire, new_output, live_outputs}
use Rattle.writer.specs.Whole as written
use Rattle.regroup.specs.Numbers.{Numbers}
use Rattle.regroup.specs.Order.{Below, all-ordered, ordered-below, is_ordered}
use Rattle.writer2.specs.Node2.{Turns, Ordered, ordered}
use Rattle.writer2.specs.Stream.{stream, lines-stream}
use Rattle.writer2.specs.Whole2.{text2}
use Rattle.network_judge.specs.declared.network.Network.{Network}
use Rattle.network_judge.specs.Holds.{GoodOutput, Holds}
use Rattle.network.specs.View.{network_of}
use Rattle.convert.specs.Length.{small-new, Centred, Fit, each_node, each_map, stream-length, net-length, net2_length}
use Rattle.convert.specs.Moved.{Renames, new-number, has-number, near_node, moved_node_lem, moved_outputs, stays, stay_nodes, stay_same, stay_outputs}

-- ---- How long the outputs are.

module _ {live : NewNumbers} {to : ℕ → ℕ} {net : P.Option F.Net} {store : Store} {inputs : ℕ} {outs : List O.Output} (r : Renames live to (length (store_of store))) (o : Holds net store inputs outs) where
  small_wire : (w : Wire) → no_node (length (store_of store)) w ≡ false → WireBit w → SmallWire (new_wire live w)
  unfolding SmallWire WireBit
  small_wire (Const b) s k = omega arith
  small_wire (Node i) s k =
      let l = near_node r i s in let q = r.near i l in rw (new-number r i l) (omega arith)

  small-outputs : (os : List O.Output) → All (GoodOutput (length (store_of store))) os → Each SmallOutput (live_outputs live (map output_of os))
  unfolding live_outputs
  small-outputs [] a = tt
  small-outputs (x ∷ os) a =
      let g = a 0 x (omega arith) in
      (record { name = g.name.short; wire = small_wire x.wire g.known g.bit }, small-outputs os (λ j e l. a (suc j) e (omega arith)))

  outs-length : length (outputs_text (live_outputs live (map output_of outs))) ≤ 992
  unfolding live_outputs
  outs-length =
      let f = o.few_outputs in
      omega (
        arith,
        outputs_short (live_outputs live (map output_of outs)) (small-outputs outs o.outputs),
        length-map (map output_of outs) (new_output live),
        length-map outs output_of,
      )

  small-node : (i : ℕ) → i < length (store_of store) → SmallNode (new_node live (node_at (store_of store) i))
  small-node i l =
      small-new live i (λ j k. let q = r.near j (omega arith) in rw (new-number r j (omega arith)) (omega arith)) (node_at (store_of store) i) (node_fine store i l)

-- ---- Back to the plain text: the numbers stay.

module _ {live : NewNumbers} (net : F.Net) (w : Network) (r : Renames live stays (length (store_of w.store))) (d : w.net ≡ P.Some net) where
  pub plain_same : {os : List O.Output} → os ≡ w.outputs.items → written.network_of net (map output_of os) w.store live ≡ network_of net w
  unfolding written.network_of
  plain_same e = rw e (
      ap₂ {C = R.Network} (λ (ns : List LutNode) (os : List Output). record { p = net.p; m = net.m; norm = net.norm; nodes = ns; outputs = os })
      (stay_nodes live w.store r)
      (moved_outputs r w.outputs.items w.holds.outputs ∙ stay_outputs (map output_of w.outputs.items)))

  plain-nodes : length (nodes_text (live_nodes live w.store)) ≤ 80640
  plain-nodes =
      let m = store_few w.store in
      rw (stay_nodes live w.store r)
      (omega (
        arith,
        nodes_most (store_of w.store)
            (each_node SmallNode (store_of w.store) (λ i l. subst SmallNode (stay_same live w.store r i l) (small-node r w.holds i l))),
      ))

  pub plain-room : {os : List O.Output} → os ≡ w.outputs.items → SmallLimit net.norm → Room 0 (network_text (written.network_of net (map output_of os) w.store live))
  plain-room e f = rw e
      record {
        fits =
            omega (
              arith,
              ap length (written.whole_text net (map output_of w.outputs.items) w.store live),
              length-append (net_text net.p net.m net.norm ++ nodes_text (live_nodes live w.store)) (outputs_text (live_outputs live (map output_of w.outputs.items))),
              length-append (net_text net.p net.m net.norm) (nodes_text (live_nodes live w.store)),
              net-length net.p net.m net.norm (limits_period net.p net.m (w.holds.limits net d)) (limits_most net.p net.m (w.holds.limits net d)) f,
              plain-nodes,
              outs-length r w.holds,
            );
      }

-- ---- To edition 2.

place_most : (l : List ℕ) (j : ℕ) → place_in l j ≤ length l
unfolding place_in
place_most [] j = omega arith
place_most (i ∷ l) j = if_both (λ n. n ≤ suc (length l)) (eqb i j) (omega arith) (let q = place_most l j in omega arith)

map_at : {A : Type 0} (f g : ℕ → A) (l : List ℕ) → ((k : ℕ) → k < length l → f (get_or l k 0) ≡ g (get_or l k 0)) → map f l ≡ map g l
map_at f g [] h = refl
map_at {A} f g (i ∷ l) h = ap₂ {C = List A} (λ x r. x ∷ r) (h 0 (omega arith)) (map_at f g l (λ k q. h (suc k) (omega arith)))

lines-append : (a b : List Line2) → lines2_text (a ++ b) ≡ lines2_text a ++ lines2_text b
unfolding lines2_text
lines-append [] b = refl
lines-append (l ∷ a) b = ap (λ (t : List ℕ). line2_text l ++ t) (lines-append a b) ∙ sym (append_assoc (line2_text l) (lines2_text a) (lines2_text b))

out_lines : (os : List Output) → lines2_text (map (λ (o : Output). Plain (OutLine o)) os) ≡ outputs_text os
unfolding lines2_text line2_text outputs_text
out_lines [] = refl
out_lines (o ∷ os) = ap (λ (t : List ℕ). output_text o ++ t) (out_lines os)

first-line : (n : Net) → line2_text (Plain (NetLine n)) ≡ net2_text n.p n.m n.norm
unfolding line2_text net2_text
first-line n = nested (bytes "(net2 ") (digits n.p) (bytes " ") (digits n.m) (limit_text n.norm) (bytes ")\n")
  where
    nested : (a b c d e f : List ℕ) → a ++ (b ++ (c ++ (d ++ (c ++ (e ++ f))))) ≡ a ++ b ++ c ++ d ++ c ++ e ++ f
    nested a b c d e f = simp append_assoc

whole-lines : (n : Net) (ns : List LutNode) (os : List Output)
    → lines2_text (Plain (NetLine n) ∷ (node_lines n.p ns ++ map (λ (o : Output). Plain (OutLine o)) os)) ≡ net2_text n.p n.m n.norm ++ stream n.p None ns ++ outputs_text os
unfolding lines2_text
whole-lines n ns os =
    ap₂ {C = List ℕ} (λ a b. a ++ b) (first-line n)
    (lines-append (node_lines n.p ns) (map (λ (o : Output). Plain (OutLine o)) os) ∙ ap₂ {C = List ℕ} (λ a b. a ++ b) (lines-stream n.p ns) (out_lines os))
    ∙ sym (append_assoc (net2_text n.p n.m n.norm) (stream n.p None ns) (outputs_text os))

centred_new : (P i : ℕ) (live : NewNumbers) (n : LutNode) → Fine i n → Turns P n → Centred P (new_node live n)
unfolding Fine Turns new_node Centred
centred_new P i live (Input g) f t = tt
centred_new P i live (Linear c ts) f t = tt
centred_new P i live (Bootstrap j table) f t = centre_most P table (all-bits_of table (λ k l. f.2 k)) t

-- every table of these turns
abbrev pub AllTurn : ℕ → List LutNode → Type 0
AllTurn P nodes = (i : ℕ) → i < length nodes → Turns P (node_at nodes i)

-- what the numbering asks of an order
pub order_fits : (store : Store) (o : List ℕ) → o ≡ order (store_of store) → (length o ≤ 672) × Below 672 o
order_fits store o e =
    let m = store_few store in
    let b = ordered-below (store_of store) in
    rw e (omega (arith, all-ordered (store_of store)), record { at = λ i h. let q = b.at i h in omega arith })

module _ {live : NewNumbers} {o : List ℕ} (net : F.Net) (w : Network) (e : o ≡ order (store_of w.store)) (n : Numbers o live) (d : w.net ≡ P.Some net) (t : AllTurn net.p (store_of w.store)) where
  abbrev to : ℕ → ℕ
  to = place_in (order (store_of w.store))

  all-placed : length o ≡ length (store_of w.store)
  all-placed = ap length e ∙ all-ordered (store_of w.store)

  places : (j : ℕ) → to j ≤ length (store_of w.store)
  places j = omega (arith, place_most (order (store_of w.store)) j, all-ordered (store_of w.store))

  pub renames : Renames live to (length (store_of w.store))
  renames =
      record {
        at = λ j l. subst (λ (x : List ℕ). get_or live j None ≡ Some (place_in x j)) e (n.at j (subst (λ (x : List ℕ). member j x ≡ true) (sym e) (is_ordered (store_of w.store) j l)));
        near = λ j l. let m = store_few w.store in omega (arith, places j);
      }

  -- the number at place k
  within : (k : ℕ) → k < length o → get_or o k 0 < length (store_of w.store)
  within k l = (subst (λ (x : List ℕ). Below (length (store_of w.store)) x) (sym e) (ordered-below (store_of w.store))).at k l

  pub second-ordered : Ordered net.p live w.store o
  second-ordered = record { below = within; numbered = has-number renames; turns = t }

  -- what a node needs has a number, as all have
  pub second-sourced : Sourced live w.store
  unfolding Sourced
  second-sourced = λ i h p j m. let b = store_ordered w.store i h j m in has-number renames j (omega arith)

  second-nodes : ordered live (store_of w.store) o ≡ map (λ i. moved_node to (node_at (store_of w.store) i)) (order (store_of w.store))
  unfolding ordered
  second-nodes =
      map_at (λ i. new_node live (node_at (store_of w.store) i)) (λ i. moved_node to (node_at (store_of w.store) i)) o (λ k l. moved (get_or o k 0) (within k l))
      ∙ ap (map (λ i. moved_node to (node_at (store_of w.store) i))) e
    where
      moved : (i : ℕ) → i < length (store_of w.store) → new_node live (node_at (store_of w.store) i) ≡ moved_node to (node_at (store_of w.store) i)
      moved i l = moved_node_lem renames i (omega arith) (node_at (store_of w.store) i) (node_fine w.store i l)

  pub second_same : {os : List O.Output} → os ≡ w.outputs.items → text2 net (map output_of os) w.store live o ≡ network_text2 (regrouped (network_of net w))
  unfolding text2 network_text2 lines_of regrouped reordered
  second_same q = rw q (
      ap₂ {C = List ℕ} (λ (ns : List LutNode) (os : List Output). net2_text net.p net.m net.norm ++ stream net.p None ns ++ outputs_text os) second-nodes (moved_outputs renames w.outputs.items w.holds.outputs)
      ∙ sym (whole-lines (record { p = net.p; m = net.m; norm = net.norm }) (map (λ i. moved_node to (node_at (store_of w.store) i)) (order (store_of w.store))) (map (moved_output to) (map output_of w.outputs.items))))

  second-stream : length (stream net.p None (ordered live (store_of w.store) o)) ≤ 81986
  unfolding ordered
  second-stream =
      let m = store_few w.store in
      omega (
        arith,
        all-placed,
        length-map o (λ i. new_node live (node_at (store_of w.store) i)),
        stream-length net.p None (map (λ i. new_node live (node_at (store_of w.store) i)) o)
            (each_map (Fit net.p) (λ i. new_node live (node_at (store_of w.store) i)) o (λ k l. fit (get_or o k 0) (within k l))),
      )
    where
      fit : (i : ℕ) → i < length (store_of w.store) → Fit net.p (new_node live (node_at (store_of w.store) i))
      fit i l = record { small = small-node renames w.holds i l; centred = centred_new net.p i live (node_at (store_of w.store) i) (node_fine w.store i l) (t i l) }

  pub second-room : {os : List O.Output} → os ≡ w.outputs.items → SmallLimit net.norm → Room 0 (text2 net (map output_of os) w.store live o)
  unfolding text2
  second-room q f = rw q
      record {
        fits =
            omega (
              arith,
              length-append (net2_text net.p net.m net.norm ++ stream net.p None (ordered live (store_of w.store) o)) (outputs_text (live_outputs live (map output_of w.outputs.items))),
              length-append (net2_text net.p net.m net.norm) (stream net.p None (ordered live (store_of w.store) o)),
              net2_length net.p net.m net.norm (limits_period net.p net.m (w.holds.limits net d)) (limits_most net.p net.m (w.holds.limits net d)) f,
              second-stream,
              outs-length renames w.holds,
            );
      }

-- ---- The tables of an admitted network turn.

turn_one : (n : Net) (before : List LutNode) (x : LutNode) → Passes n before [] (NodeLine x) → Turns n.p x
unfolding Turns
turn_one n before (Input g) p = tt
turn_one n before (Linear c ts) p = tt
turn_one n before (Bootstrap j table) p = (boot_passes n before j table p).turns

pass_turns : (n : Net) (before xs : List LutNode) → NodesPass n before xs → AllTurn n.p xs
unfolding NodesPass node_at
pass_turns n before [] p k l = absurd (not-suc-le-zero l)
pass_turns n before (x ∷ xs) p zero l = turn_one n before x p.0
pass_turns n before (x ∷ xs) p (suc k) l = pass_turns n (before ++ (x ∷ [])) xs p.1 k (le_of_suc-le-suc l)

pub all-turn : (net : F.Net) (w : Network) → Admissible (network_of net w) → AllTurn net.p (store_of w.store)
unfolding net_of
all-turn net w a = pass_turns (record { p = net.p; m = net.m; norm = net.norm }) [] (store_of w.store) a.nodes
