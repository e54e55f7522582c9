-- The nodes and outputs in a new order pass admission.
use Rattle.std.specs.Prelude.{◌≡◌, false, ◌&&◌, ◌||◌, not, ℕ, ◌<◌, ℤ, take}
use Rattle.std.proofs.Math.Path.{refl, ap, subst}
use Rattle.std.proofs.Common.{sym, ◌∙◌, ⊎_elim, arith}
use Rattle.std.proofs.Math.Bool.{true}
use mathlib.Core.List.{List, [], ◌∷◌, ◌++◌, map, append_assoc, map-append}
use borrow.Author.Tests.{leb-false, lt-leb, not-true, not-false}
use Rattle.std.proofs.Math.Dec.{leb}
use Rattle.std.proofs.Math.ListN.{length, get_or, length-append, length-map, get_or-map}
use Rattle.laws.specs.Test.{get_d_any, both_left, both_right, neither_left, neither_right, both, neither, not_of_false, not_of_true, not_both}
use Rattle.rules.specs.declared.Wire.{Wire}
use Rattle.rules.specs.declared.Wire.TheVariants.{Const, Node}
use Rattle.rules.specs.Circuit.{Output}
use Rattle.rules.specs.CircuitText.{listed, no_node}
use Rattle.rules.specs.Network.{Term, LutNode, Input, Linear, Bootstrap, is_input, is_linear, member, node_at, weight_of, norm, node_norm}
use Rattle.rules.specs.NetworkText.{Net, NodeLine, OutLine, small, good_terms, good_sum, sources, names, all_different, all_inputs, unknown, any_bad_source, started, ending, settings_of, fits_table, no_bit, text_conditions, safety_conditions, admission_conditions}
use Rattle.rules.specs.Regroup.{place_in, moved_term, moved_node, moved_wire, moved_output}
use Rattle.rules.specs.Store.{needs}
use Rattle.theorems.specs.Admissible.{Passes, NodesPass, OutputsPass, pass_at, few_nodes}
use Rattle.theorems.specs.LineBits.{WireBit, NodeBits, LineBits}
use Rattle.theorems.specs.Members.{member_head, member-tail, member_cons, no_member}
use Rattle.theorems.specs.NodesAt.{no_input, taken-node}
use Rattle.theorems.specs.Readings.{NoneMet}
use Rattle.theorems.specs.Weights.{sources_within}
use Rattle.editions.specs.Places.{not_member, place_within, place_at, place_front, place_same}
use Rattle.editions.specs.NewOrder.{taken-length, Ordered, Sorted}
use Rattle.editions.specs.Moved.{same_good_terms, new-sources, same_linear, same_is_bit, same_fits, same_norm, same_all_inputs, same_names_lem, numbered_nodes, same_weight}

-- ---- A node that is moved behind others.

-- These old numbers stand first in the new order: each is the node at its new number.
pub record Placed (ns : List LutNode) (to : ℕ → ℕ) (done : List ℕ) (ms : List LutNode) : Type 0 where
  pub long : length ms ≡ length done
  pub within : (j : ℕ) → member j done ≡ true → to j < length ms
  pub at : (j : ℕ) → member j done ≡ true → node_at ms (to j) ≡ moved_node to (node_at ns j)
  pub same : (i j : ℕ) → member i done ≡ true → member j done ≡ true → to i ≡ to j → i ≡ j

module _ (ns : List LutNode) (to : ℕ → ℕ) (done : List ℕ) (ms : List LutNode) (s : Placed ns to done ms) where
  abbrev Within : List ℕ → Type 0
  Within is = (j : ℕ) → member j is ≡ true → member j done ≡ true

  member-to : (i : ℕ) (is : List ℕ) → member i done ≡ true → Within is → member (to i) (map to is) ≡ true → member i is ≡ true
  member-to i [] h w m = absurd (no_member (to i) m)
  member-to i (j ∷ is) h w m =
      ⊎_elim (λ (e : to i ≡ to j). subst (λ k. member i (k ∷ is) ≡ true) (s.same i j h (w j (member_head j is)) e) (member_head i is))
      (λ (e : member (to i) (map to is) ≡ true). member-tail i j is (member-to i is h (λ k q. w k (member-tail k j is q)) e))
      (member_cons (to i) (to j) (map to is) m)

  still_different : (is : List ℕ) → Within is → all_different is ≡ true → all_different (map to is) ≡ true
  unfolding all_different
  still_different [] w e = refl
  still_different (i ∷ is) w e =
      let later : Within is = λ k q. w k (member-tail k i is q) in
      let apart = not-true (member i is) (both_left (not (member i is)) (all_different is) e) in
      both (not (member (to i) (map to is))) (all_different (map to is))
      (not_of_false _ (not_member (to i) (map to is) (λ m. not_both (member i is) (member-to i is (w i (member_head i is)) later m) apart)))
      (still_different is later (both_right (not (member i is)) (all_different is) e))

  still_good : (c : ℤ) (ts : List Term) → Within (sources ts) → good_sum c ts ≡ true → good_sum c (map (moved_term to) ts) ≡ true
  unfolding good_sum
  still_good c ts w e =
      let first = small c && good_terms ts in
      let count = leb 1 (length ts) && leb (length ts) 11 in
      let rest = count && all_different (sources ts) in
      let d = still_different (sources ts) w (both_right count (all_different (sources ts)) (both_right first rest e)) in
      rw (same_good_terms to ts, length-map, new-sources to ts, d)
      (both first (count && true) (both_left first rest e)
      (both count true (both_left count (all_different (sources ts)) (both_right first rest e)) refl))

  known : (j : ℕ) → member j done ≡ true → unknown ms (to j) ≡ false
  unfolding unknown
  known j h = lt-leb (length ms) (to j) (s.within j h)

  module _ (k : ℕ) (l : k < length ns) where
    taken_below : (j : ℕ) → unknown (take k ns) j ≡ false → j < k
    unfolding unknown
    taken_below j e = let r = leb-false (length (take k ns)) j e in omega (arith, taken-length k ns (omega arith))

    still_no_bad : (is : List ℕ) → Within is → any_bad_source (take k ns) is ≡ false → any_bad_source ms (map to is) ≡ false
    unfolding any_bad_source
    still_no_bad [] w e = refl
    still_no_bad (i ∷ is) w e =
        let bad = unknown (take k ns) i || is_linear (node_at (take k ns) i) in
        let f = neither_left bad (any_bad_source (take k ns) is) e in
        let b = taken_below i (neither_left (unknown (take k ns) i) _ f) in
        let h = w i (member_head i is) in
        neither (unknown ms (to i) || is_linear (node_at ms (to i))) (any_bad_source ms (map to is))
        (neither (unknown ms (to i)) (is_linear (node_at ms (to i))) (known i h)
        (ap is_linear (s.at i h) ∙ same_linear to (node_at ns i) ∙ ap is_linear (sym (taken-node k i ns b))
        ∙ neither_right (unknown (take k ns) i) (is_linear (node_at (take k ns) i)) f))
        (still_no_bad is (λ j q. w j (member-tail j i is q)) (neither_right bad (any_bad_source (take k ns) is) e))

    moved_fits : (M i : ℕ) (table : List ℕ) → member i done ≡ true → i < k → fits_table M (node_at ms (to i)) table ≡ fits_table M (node_at (take k ns) i) table
    moved_fits M i table h b =
        ap (λ x. fits_table M x table) (s.at i h) ∙ same_fits to M (node_at ns i) table ∙ ap (λ x. fits_table M x table) (sym (taken-node k i ns b))

    moved_norm : (ts : List Term) → Within (sources ts) → any_bad_source (take k ns) (sources ts) ≡ false → norm ms (map (moved_term to) ts) ≡ norm (take k ns) ts
    moved_norm ts w e =
        same_norm to ms (take k ns) ts (λ j m.
        let b = sources_within (take k ns) (sources ts) e j m in
        ap weight_of (s.at j (w j m)) ∙ same_weight to (node_at ns j) ∙ ap weight_of (sym (taken-node k j ns (omega (arith, taken-length k ns (omega arith))))))

    module _ (n : Net) (room : length ms < 672) where
      node_passes : (x : LutNode) → Passes n (take k ns) [] (NodeLine x) → Within (needs x) → (is_input x ≡ true → ms ≡ map (moved_node to) (take k ns))
          → Passes n ms [] (NodeLine (moved_node to x))
      unfolding Passes NoneMet admission_conditions text_conditions safety_conditions settings_of started ending needs moved_node node_norm LineBits NodeBits is_input
      node_passes (Input a) p w f =
          let e = f refl in (
            (
              refl,
              (
                not_of_true (all_inputs ms) (ap all_inputs e ∙ same_all_inputs to (take k ns) ∙ not-false (all_inputs (take k ns)) p.0.1.0),
                (rw (e, length-map) p.0.1.1.0, (ap (λ l. listed a.name (names l)) e ∙ ap (listed a.name) (same_names_lem to (take k ns)) ∙ p.0.1.1.1.0, tt)),
              ),
            ),
            p.1,
          )
      node_passes (Linear c ts) p w f = (
        (
          refl,
          (
            refl,
            (
              lt-leb 672 (length ms) room,
              (
                not_of_true (good_sum c (map (moved_term to) ts)) (still_good c ts w (not-false (good_sum c ts) p.0.1.1.1.0)),
                (rw (new-sources to ts) (still_no_bad (sources ts) w p.0.1.1.1.1.0), (rw (moved_norm ts w p.0.1.1.1.1.0) p.0.1.1.1.1.1.0, tt)),
              ),
            ),
          ),
        ),
        tt,
      )
      node_passes (Bootstrap i table) p w f =
          let h = w i (member_head i []) in (
            (
              refl,
              (
                refl,
                (
                  lt-leb 672 (length ms) room,
                  (
                    p.0.1.1.1.0,
                    (known i h, (rw (moved_fits n.m i table h (taken_below i p.0.1.1.1.1.0)) p.0.1.1.1.1.1.0, p.0.1.1.1.1.1.1)),
                  ),
                ),
              ),
            ),
            p.1,
          )

-- ---- The nodes in turn.

module _ (n : Net) (ns : List LutNode) (p : NodesPass n [] ns) (o : List ℕ) where
  -- the node of an old number, with new numbers
  abbrev pub new : ℕ → LutNode
  new j = moved_node (place_in o) (node_at ns j)

  pub front_placed : (done rest : List ℕ) → done ++ rest ≡ o → Placed ns (place_in o) done (map new done)
  unfolding node_at
  front_placed done rest e =
      record {
        long = rw length-map;
        within = λ j h. rw length-map (subst (λ i. i < length done) (sym (place j h)) (place_within done j h));
        at = λ j h. ap (λ i. get_or (map new done) i no_input) (place j h)
            ∙ get_d_any (map new done) (place_in done j) no_input (new 0) (rw length-map (place_within done j h))
            ∙ get_or-map new done (place_in done j) 0 ∙ ap new (place_at done j 0 h);
        same = λ i j h k q. place_same done i j h k (sym (place i h) ∙ q ∙ place j k);
      }
    where
      place : (j : ℕ) → member j done ≡ true → place_in o j ≡ place_in done j
      place j h = ap (λ l. place_in l j) (sym e) ∙ place_front done rest j h

  moved_pass : (done todo : List ℕ) → done ++ todo ≡ o → length o ≡ length ns → Ordered ns done todo → NodesPass n (map new done) (map new todo)
  unfolding NodesPass Ordered
  moved_pass done [] e l w = tt
  moved_pass done (i ∷ todo) e l w = (
    node_passes ns (place_in o) done (map new done) (front_placed done (i ∷ todo) e) i w.0.within n room (node_at ns i) (pass_at n [] ns p i w.0.within) w.0.earlier inputs,
    subst (λ ms. NodesPass n ms (map new todo)) (map-append new done (i ∷ [])) (moved_pass (done ++ (i ∷ [])) todo (append_assoc done (i ∷ []) todo ∙ e) l w.1),
  )
    where
      room : length (map new done) < 672
      room = rw length-map (omega (arith, few_nodes n ns p, l, ap length e, length-append done (i ∷ todo)))

      inputs : is_input (node_at ns i) ≡ true → map new done ≡ map (moved_node (place_in o)) (take i ns)
      inputs h =
          let below = w.0.within in
          ap (map new) (w.0.inputs h) ∙ numbered_nodes (moved_node (place_in o)) i ns (omega arith)

  pub nodes_pass : Sorted ns (length ns) o → NodesPass n [] (map new o)
  nodes_pass s = moved_pass [] o refl s.long s.ordered

-- ---- The outputs.

module _ (n : Net) (ns : List LutNode) (to : ℕ → ℕ) (o : List ℕ) (ms : List LutNode) (s : Placed ns to o ms) (all : (j : ℕ) → j < length ns → member j o ≡ true) where
  wire_known : (w : Wire) → no_node (length ns) w ≡ false → no_node (length ms) (moved_wire to w) ≡ false
  unfolding no_node moved_wire unknown
  wire_known (Const b) e = refl
  wire_known (Node i) e = lt-leb (length ms) (to i) (s.within i (all i (leb-false (length ns) i e)))

  wire_bit : (w : Wire) → no_node (length ns) w ≡ false → no_bit ns w ≡ false → no_bit ms (moved_wire to w) ≡ false
  unfolding no_node no_bit moved_wire
  wire_bit (Const b) e f = refl
  wire_bit (Node i) e f = rw (s.at i (all i (leb-false (length ns) i e)), same_is_bit to (node_at ns i)) f

  wire_constant : (w : Wire) → WireBit w → WireBit (moved_wire to w)
  unfolding WireBit moved_wire
  wire_constant (Const b) h = h
  wire_constant (Node i) h = tt

  output_passes : (os vs : List Output) (o : Output) → length vs ≡ length os → Passes n ns os (OutLine o) → Passes n ms vs (OutLine (moved_output to o))
  unfolding Passes NoneMet admission_conditions text_conditions safety_conditions started moved_output LineBits
  output_passes os vs o e p = (
    (
      refl,
      (rw e p.0.1.0, (wire_known o.wire p.0.1.1.0, (wire_bit o.wire p.0.1.1.0 p.0.1.1.1.0, tt))),
    ),
    wire_constant o.wire p.1,
  )

  pub outputs_pass : (before vs os : List Output) → length vs ≡ length before → OutputsPass n ns before os → OutputsPass n ms vs (map (moved_output to) os)
  unfolding OutputsPass
  outputs_pass before vs [] e p = tt
  outputs_pass before vs (o ∷ os) e p = (
    output_passes before vs o e p.0,
    outputs_pass (before ++ (o ∷ [])) (vs ++ (moved_output to o ∷ [])) os (omega (arith, length-append vs (moved_output to o ∷ []), length-append before (o ∷ []))) p.1,
  )
