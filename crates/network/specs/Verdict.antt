-- The number that a line is refused with, and what of a line that was read decides it.
use Rattle.std.specs.Prelude.{◌≡◌, Bool, ◌||◌, ℕ, ◌+◌, ◌*◌, ◌<◌, ◌≤◌, min, ltb, ℤ}
use Rattle.std.proofs.Math.Path.{refl, sym, ap}
use Rattle.std.proofs.Common.{◌∙◌, arith, true≢false}
use Rattle.std.proofs.Math.Bool.{true, false, not}
use mathlib.Core.List.{List, [], ◌∷◌, ◌++◌, append-nil}
use Rattle.std.proofs.Math.Logic.{⊎_elim}
use Rattle.std.proofs.Math.Option.{Option, none, some}
use borrow.Author.Tests.{le-leb, lt-leb, lt-ltb, le-ltb, leb-true, leb-false, not-false}
use Rattle.std.proofs.Math.Dec.{leb}
use Rattle.std.proofs.Math.IntN.{nat_abs}
use Rattle.std.proofs.Math.ListN.{length}
use Rattle.laws.specs.Test.{if◌then◌otherwise◌, lt_or_le, neither_left, neither_right, same_of_four}
use Rattle.rules.specs.declared.Wire.{Wire}
use Rattle.rules.specs.declared.Wire.TheVariants.{Const, Node}
use Rattle.rules.specs.Builder.{table_limits}
use Rattle.rules.specs.Circuit.{Name, Given, Output}
use Rattle.rules.specs.CircuitText.{no_node}
use Rattle.rules.specs.Form.{Condition, ◌when◌}
use Rattle.rules.specs.Network.{Term, LutNode, Input, Linear, Bootstrap, is_input, is_linear, weight_of, norm, node_norm, node_at}
use Rattle.rules.specs.NetworkText.{Net, NetworkLine, NetLine, NodeLine, OutLine, NetPrefix, good_sum, all_inputs, unknown, sources, any_bad_source, started, ending, text_conditions, safety_conditions, admission_conditions, settings_of, over, with_network_line}
use Rattle.theorems.specs.NodesAt.{node_none}
use Rattle.text.specs.Cap.{cap_small}
use Rattle.forms.specs.Forms.{cap_output}
use Rattle.text.specs.Judged.{lowest, Numbered, unmet}
use Rattle.forms.specs.Wire.{cap_wire}
use Rattle.network_judge.specs.Conditions.{room_conditions, later_conditions, safety, line_conditions}
use Rattle.network_text.specs.Lines.{cap_term, cap_terms, good_form, good_line}

-- Admission judges 21 to 26, a run 21 and 22.
unfoldable pub conditions_of : Bool → NetPrefix → NetworkLine → List Condition
conditions_of true = admission_conditions
conditions_of false = text_conditions

-- The number that a line is refused with, 0 where it is not.
unfoldable pub refusal : Bool → NetPrefix → Option NetworkLine → ℕ
refusal judge w none = 21
refusal judge w (some l) = lowest (conditions_of judge w l)

abbrev pub with_form : ℕ → NetPrefix → Option NetworkLine → NetPrefix
with_form i w none = w
with_form i w (some l) = with_network_line i w l

-- ---- The lines in turn go by that number.

pub numbered : (judge : Bool) (w : NetPrefix) (l : NetworkLine) → Numbered (conditions_of judge w l)
unfolding conditions_of admission_conditions text_conditions safety_conditions
numbered true w (NetLine n) = (omega arith, (omega arith, tt))
numbered true w (NodeLine (Input n)) = (omega arith, (omega arith, (omega arith, (omega arith, tt))))
numbered true w (NodeLine (Linear c ts)) = (omega arith, (omega arith, (omega arith, (omega arith, (omega arith, (omega arith, tt))))))
numbered true w (NodeLine (Bootstrap i t)) = (omega arith, (omega arith, (omega arith, (omega arith, (omega arith, (omega arith, (omega arith, tt)))))))
numbered true w (OutLine o) = (omega arith, (omega arith, (omega arith, (omega arith, tt))))
numbered false w (NetLine n) = (omega arith, (omega arith, tt))
numbered false w (NodeLine (Input n)) = (omega arith, (omega arith, (omega arith, (omega arith, tt))))
numbered false w (NodeLine (Linear c ts)) = (omega arith, (omega arith, (omega arith, (omega arith, (omega arith, tt)))))
numbered false w (NodeLine (Bootstrap i t)) = (omega arith, (omega arith, (omega arith, (omega arith, (omega arith, tt)))))
numbered false w (OutLine o) = (omega arith, (omega arith, (omega arith, tt)))

-- ---- A line that is good on its own: what stands before it decides.

unfoldable pub good_refusal : Bool → NetPrefix → Option NetworkLine → ℕ
good_refusal judge w none = 21
good_refusal judge w (some l) = lowest (line_conditions judge w l)

conditions_are : (judge : Bool) (w : NetPrefix) (l : NetworkLine) → conditions_of judge w l ≡ text_conditions w l ++ safety judge w l
unfolding conditions_of safety admission_conditions
conditions_are true w l = refl
conditions_are false w l = sym (append-nil (text_conditions w l))

-- ---- A node's number up to 65536 says whether it is a node, and which.

module _ (ns : List LutNode) (h : length ns ≤ 65536) where
  -- a node or not: its number is exact, or past all of them
  pub exact_or_unknown : (Q : ℕ → ℕ → Type 0) (i : ℕ) → (min 65536 i ≡ i → Q i i) → (unknown ns i ≡ true → unknown ns (min 65536 i) ≡ true → Q (min 65536 i) i) → Q (min 65536 i) i
  unfolding unknown
  exact_or_unknown Q i f g =
      ⊎_elim (λ (l : i < length ns). let e = cap_small i (omega arith) in rw e (f e))
      (λ (l : length ns ≤ i). g (le-leb (length ns) i l) (le-leb (length ns) (min 65536 i) (omega arith))) (lt_or_le i (length ns))

  cap_sources : (ts : List Term) → any_bad_source ns (sources (cap_terms ts)) ≡ any_bad_source ns (sources ts)
  unfolding any_bad_source sources cap_terms cap_term
  cap_sources [] = refl
  cap_sources (t ∷ ts) =
      exact_or_unknown (λ x y. ((unknown ns x || is_linear (node_at ns x)) || any_bad_source ns (sources (cap_terms ts))) ≡ ((unknown ns y || is_linear (node_at ns y)) || any_bad_source ns (sources ts)))
      t.node (λ e. rw (cap_sources ts)) (λ e f. rw (e, f))

  same_sources : (ts : List Term) → any_bad_source ns (sources ts) ≡ false → cap_terms ts ≡ ts
  unfolding any_bad_source sources cap_terms cap_term unknown
  same_sources [] e = refl
  same_sources (t ∷ ts) e =
      let a = neither_left _ (any_bad_source ns (sources ts)) e in
      let b = neither_right (unknown ns t.node || is_linear (node_at ns t.node)) _ e in
      let k : t.node < length ns = leb-false (length ns) t.node (neither_left _ (is_linear (node_at ns t.node)) a) in
      rw (cap_small t.node (omega arith), same_sources ts b)

  -- what is no node weighs 1, whatever its number
  weightless : (i : ℕ) → unknown ns i ≡ true → weight_of (node_at ns i) ≡ 1
  unfolding unknown weight_of
  weightless i e = ap weight_of (node_none ns i (leb-true (length ns) i e))

  cap_norm : (ts : List Term) → norm ns (cap_terms ts) ≡ norm ns ts
  unfolding norm cap_terms cap_term
  cap_norm [] = refl
  cap_norm (t ∷ ts) =
      let square = nat_abs t.coef * nat_abs t.coef in
      exact_or_unknown (λ x y. square * weight_of (node_at ns x) + norm ns (cap_terms ts) ≡ square * weight_of (node_at ns y) + norm ns ts)
      t.node (λ e. rw (cap_norm ts)) (λ e f. rw (weightless t.node e, weightless (min 65536 t.node) f, cap_norm ts))

  same_node : (i : ℕ) → unknown ns i ≡ false → min 65536 i ≡ i
  unfolding unknown
  same_node i e = cap_small i (omega (arith, leb-false (length ns) i e))

  same_wire : (u : Wire) → no_node (length ns) u ≡ false → cap_wire u ≡ u
  unfolding no_node cap_wire
  same_wire (Const b) e = refl
  same_wire (Node i) e = ap Node (cap_small i (omega (arith, leb-false (length ns) i e)))

long_table : (n : ℕ) → ltb 32 n ≡ not (leb n 32)
long_table n = ⊎_elim (λ (l : 32 < n). rw (lt-ltb 32 n l, lt-leb n 32 l)) (λ (l : n ≤ 32). rw (le-ltb 32 n l, le-leb n 32 l)) (lt_or_le 32 n)

-- ---- So a good line is refused as the line is that was read.

module _ (judge : Bool) (w : NetPrefix) (h : length w.nodes ≤ 65536) where
  good_net : (n : Net) (t : Bool) → good_refusal judge w (if t then some (NetLine n) otherwise none) ≡ lowest ((21 when not t) ∷ (21 when started w) ∷ safety judge w (NetLine n))
  unfolding good_refusal line_conditions room_conditions later_conditions lowest
  good_net n true = refl
  good_net n false = refl

  safe_lin : (c : ℤ) (ts : List Term) → safety judge w (NodeLine (Linear c (cap_terms ts))) ≡ safety judge w (NodeLine (Linear c ts))
  unfolding safety safety_conditions node_norm
  safe_lin c ts = ap (λ k. if judge then (25 when over (settings_of w.net).norm k) ∷ [] otherwise []) (cap_norm w.nodes h ts)

  good_in : (n : Given) → good_refusal judge w (some (NodeLine (Input n))) ≡ lowest (text_conditions w (NodeLine (Input n)) ++ safety judge w (NodeLine (Input n)))
  unfolding good_refusal line_conditions room_conditions later_conditions text_conditions
  good_in n = refl

  good_lin : (c : ℤ) (ts : List Term) (t : Bool)
      → good_refusal judge w (if t then some (NodeLine (Linear c (cap_terms ts))) otherwise none)
      ≡ lowest
      ((21 when not (started w))
      ∷ (21 when ending w)
      ∷ (21 when leb 672 (length w.nodes))
      ∷ (21 when not t) ∷ (22 when any_bad_source w.nodes (sources ts)) ∷ safety judge w (NodeLine (Linear c ts)))
  unfolding good_refusal line_conditions room_conditions later_conditions lowest
  good_lin c ts true = rw (cap_sources w.nodes h ts, safe_lin c ts)
  good_lin c ts false = sym (same_of_four (not (started w)) (ending w) (leb 672 (length w.nodes)) 21)

  good_boot : (i : ℕ) (table : List ℕ) (t : Bool)
      → good_refusal judge w (if t then some (NodeLine (Bootstrap (min 65536 i) table)) otherwise none)
      ≡ lowest
      ((21 when not (started w))
      ∷ (21 when ending w)
      ∷ (21 when leb 672 (length w.nodes))
      ∷ (21 when not t) ∷ (22 when unknown w.nodes i) ∷ safety judge w (NodeLine (Bootstrap i table)))
  unfolding good_refusal line_conditions room_conditions later_conditions lowest
  good_boot i table true =
      exact_or_unknown w.nodes h
      (λ x y.
      lowest
      ((21 when not (started w))
      ∷ (21 when ending w)
      ∷ (21 when leb 672 (length w.nodes))
      ∷ (22 when unknown w.nodes x) ∷ safety judge w (NodeLine (Bootstrap x table)))
      ≡ lowest
      ((21 when not (started w))
      ∷ (21 when ending w)
      ∷ (21 when leb 672 (length w.nodes))
      ∷ (22 when unknown w.nodes y) ∷ safety judge w (NodeLine (Bootstrap y table))))
      i (λ e. refl) (λ e f. rw (e, f))
  good_boot i table false = sym (same_of_four (not (started w)) (ending w) (leb 672 (length w.nodes)) 21)

  good_out : (n : Name) (u : Wire)
      → good_refusal judge w (some (OutLine (record { name = n; wire = cap_wire u })))
      ≡ lowest (text_conditions w (OutLine (record { name = n; wire = u })) ++ safety judge w (OutLine (record { name = n; wire = u })))
  unfolding good_refusal line_conditions room_conditions later_conditions text_conditions cap_wire no_node unknown lowest
  good_out n (Const b) = refl
  good_out n (Node i) =
      exact_or_unknown w.nodes h
      (λ x y.
      lowest
      ((21 when not (started w))
      ∷ (21 when leb 32 (length w.outputs))
      ∷ (22 when unknown w.nodes x) ∷ safety judge w (OutLine (record { name = n; wire = Node x })))
      ≡ lowest
      ((21 when not (started w))
      ∷ (21 when leb 32 (length w.outputs))
      ∷ (22 when unknown w.nodes y) ∷ safety judge w (OutLine (record { name = n; wire = Node y }))))
      i (λ e. refl) (λ e f. rw (e, f))

  good_form_lem : (l : NetworkLine) → good_refusal judge w (good_form l) ≡ lowest (text_conditions w l ++ safety judge w l)
  unfolding good_form text_conditions cap_output
  good_form_lem (NetLine n) = good_net n (table_limits n.p n.m)
  good_form_lem (NodeLine (Input n)) = good_in n
  good_form_lem (NodeLine (Linear c ts)) = good_lin c ts (good_sum c ts)
  good_form_lem (NodeLine (Bootstrap i table)) = rw (long_table (length table)) (good_boot i table (leb (length table) 32))
  good_form_lem (OutLine o) = good_out o.name o.wire

  pub good_refusal_lem : (o : Option NetworkLine) → good_refusal judge w (good_line o) ≡ refusal judge w o
  unfolding good_line refusal good_refusal
  good_refusal_lem none = refl
  good_refusal_lem (some l) = good_form_lem l ∙ ap lowest (sym (conditions_are judge w l))

  same_form : (l : NetworkLine) → lowest (text_conditions w l ++ safety judge w l) ≡ 0 → good_form l ≡ some l
  unfolding good_form text_conditions cap_output
  same_form (NetLine n) e = rw (not-false (table_limits n.p n.m) (unmet _ _ (omega arith) e).0)
  same_form (NodeLine (Input n)) e = refl
  same_form (NodeLine (Linear c ts)) e =
      let order = unmet _ _ (omega arith) (unmet _ _ (omega arith) (unmet _ _ (omega arith) e).1).1 in
      let sum = unmet _ _ (omega arith) order.1 in
      rw (not-false (good_sum c ts) sum.0, same_sources w.nodes h ts (unmet _ _ (omega arith) sum.1).0)
  same_form (NodeLine (Bootstrap i table)) e =
      let order = unmet _ _ (omega arith) (unmet _ _ (omega arith) (unmet _ _ (omega arith) e).1).1 in
      let long = unmet _ _ (omega arith) order.1 in
      rw (not-false (leb (length table) 32) (sym (long_table (length table)) ∙ long.0), same_node w.nodes h i (unmet _ _ (omega arith) long.1).0)
  same_form (OutLine o) e =
      let order = unmet _ _ (omega arith) (unmet _ _ (omega arith) e).1 in
      ap (λ u. some (OutLine (record { name = o.name; wire = u }))) (same_wire w.nodes h o.wire (unmet _ _ (omega arith) order.1).0)

  -- Where it is not refused it is that line.
  pub good_same : (l : NetworkLine) → refusal judge w (some l) ≡ 0 → good_line (some l) ≡ some l
  unfolding good_line refusal
  good_same l e = same_form l (ap lowest (sym (conditions_are judge w l)) ∙ e)

-- ---- What a line with no fault has.

module _ (judge : Bool) (w : NetPrefix) where
  free : (l : NetworkLine) → refusal judge w (some l) ≡ 0 → lowest (text_conditions w l ++ safety judge w l) ≡ 0
  unfolding refusal
  free l e = ap lowest (sym (conditions_are judge w l)) ∙ e

  pub net_limits : (n : Net) → refusal judge w (some (NetLine n)) ≡ 0 → table_limits n.p n.m ≡ true
  unfolding text_conditions
  net_limits n e = not-false (table_limits n.p n.m) (unmet _ _ (omega arith) (free (NetLine n) e)).0

  -- the `net` line stands before all others
  pub net-first : (n : Net) → refusal judge w (some (NetLine n)) ≡ 0 → started w ≡ false
  unfolding text_conditions
  net-first n e = (unmet _ _ (omega arith) (unmet _ _ (omega arith) (free (NetLine n) e)).1).0

  pub node-started : (n : LutNode) → refusal judge w (some (NodeLine n)) ≡ 0 → started w ≡ true
  unfolding text_conditions
  node-started (Input n) e = not-false (started w) (unmet _ _ (omega arith) (free (NodeLine (Input n)) e)).0
  node-started (Linear c ts) e = not-false (started w) (unmet _ _ (omega arith) (free (NodeLine (Linear c ts)) e)).0
  node-started (Bootstrap i table) e = not-false (started w) (unmet _ _ (omega arith) (free (NodeLine (Bootstrap i table)) e)).0

  pub inputs-only : (n : Given) → refusal judge w (some (NodeLine (Input n))) ≡ 0 → (all_inputs w.nodes ≡ true) × (length w.nodes < 32)
  unfolding text_conditions
  inputs-only n e =
      let order = unmet _ _ (omega arith) (unmet _ _ (omega arith) (free (NodeLine (Input n)) e)).1 in
      (not-false (all_inputs w.nodes) (neither_right (ending w) _ order.0), leb-false 32 (length w.nodes) (unmet _ _ (omega arith) order.1).0)

  pub sum_sound : (c : ℤ) (ts : List Term) → refusal judge w (some (NodeLine (Linear c ts))) ≡ 0 → (good_sum c ts ≡ true) × (any_bad_source w.nodes (sources ts) ≡ false)
  unfolding text_conditions
  sum_sound c ts e =
      let order = unmet _ _ (omega arith) (unmet _ _ (omega arith) (unmet _ _ (omega arith) (free (NodeLine (Linear c ts)) e)).1).1 in
      let sum = unmet _ _ (omega arith) order.1 in
      (not-false (good_sum c ts) sum.0, (unmet _ _ (omega arith) sum.1).0)

  pub out_known : (o : Output) → refusal judge w (some (OutLine o)) ≡ 0 → (length w.outputs < 32) × (no_node (length w.nodes) o.wire ≡ false)
  unfolding text_conditions
  out_known o e =
      let order = unmet _ _ (omega arith) (unmet _ _ (omega arith) (free (OutLine o) e)).1 in
      (leb-false 32 (length w.outputs) order.0, (unmet _ _ (omega arith) order.1).0)

  -- a sum or a boot
  pub node_room : (n : LutNode) → is_input n ≡ false → refusal judge w (some (NodeLine n)) ≡ 0 → length w.nodes < 672
  unfolding text_conditions is_input
  node_room (Input n) h e = absurd (true≢false h)
  node_room (Linear c ts) h e =
      let order = unmet _ _ (omega arith) (unmet _ _ (omega arith) (free (NodeLine (Linear c ts)) e)).1 in
      leb-false 672 (length w.nodes) (unmet _ _ (omega arith) order.1).0
  node_room (Bootstrap i table) h e =
      let order = unmet _ _ (omega arith) (unmet _ _ (omega arith) (free (NodeLine (Bootstrap i table)) e)).1 in
      leb-false 672 (length w.nodes) (unmet _ _ (omega arith) order.1).0

  pub boot_known : (i : ℕ) (table : List ℕ) → refusal judge w (some (NodeLine (Bootstrap i table))) ≡ 0 → i < length w.nodes
  unfolding text_conditions unknown
  boot_known i table e =
      let order = unmet _ _ (omega arith) (unmet _ _ (omega arith) (unmet _ _ (omega arith) (free (NodeLine (Bootstrap i table)) e)).1).1 in
      leb-false (length w.nodes) i (unmet _ _ (omega arith) (unmet _ _ (omega arith) order.1).1).0
