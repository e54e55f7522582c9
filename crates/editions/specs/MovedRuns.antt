-- The run of the nodes in a new order: each has the value that it had.
use Rattle.std.specs.Prelude.{◌≡◌, false, T, ℤ, ◌+ℤ◌, ◌*ℤ◌}
use Rattle.std.proofs.Math.Path.{refl, sym, ap, ap₂, subst}
use Rattle.std.proofs.Common.{◌∙◌, true≢false, arith, leb-false}
use Rattle.std.proofs.Math.Bool.{true}
use mathlib.Core.List.{List, [], ◌∷◌, ◌++◌, map, append_assoc, append-nil, map-append}
use Rattle.std.proofs.Math.Option.{Option, some, some-injective}
use Prim.Native.Nat.{ℕ, zero, suc, ◌+◌, ◌<◌}
use Rattle.std.proofs.Math.Nat.{add-zero, zero-add}
use Rattle.std.proofs.Math.IntN.{pos}
use Rattle.std.proofs.Math.ListN.{length, get_or, length-append, length-map, get_or-map}
use Rattle.std.proofs.Math.Seq.{get_or_at}
use Rattle.laws.specs.Tabulate.{tabulate-length}
use Rattle.laws.specs.Test.{get_d_any}
use Rattle.rules.specs.declared.Wire.{Wire}
use Rattle.rules.specs.declared.Wire.TheVariants.{Const, Node}
use Rattle.rules.specs.Circuit.{Output}
use Rattle.rules.specs.CircuitText.{no_node}
use Rattle.rules.specs.Network.{Term, LutNode, Input, Linear, Bootstrap, is_input, member, sum_from, node_value, with_value, node_values, wire_value, output_values, node_at}
use Rattle.rules.specs.NetworkText.{Net, sources}
use Rattle.rules.specs.Regroup.{place_in, moved_term, moved_node, moved_wire, moved_output}
use Rattle.rules.specs.Rotation.{rotated}
use Rattle.rules.specs.Runs.{all_bits}
use Rattle.rules.specs.Store.{needs}
use Rattle.theorems.specs.Admissible.{NodesPass, OutputsPass, out_passes}
use Rattle.theorems.specs.Members.{member_head, member-tail}
use Rattle.mapped.specs.StoreValues.{first_value, run-kept, ValueOf, run_value}
use Rattle.editions.specs.Places.{place_within, place_at, place_front}
use Rattle.editions.specs.NewOrder.{Ordered, Sorted}

-- ---- Inputs.

module _ (P : ℕ) (bits : List ℕ) where
  input_first : (values : List ℤ) (x : LutNode) (v : ℤ) → is_input x ≡ true → node_value P bits values x ≡ some v → v ≡ pos (get_or bits (length values) 0)
  unfolding is_input node_value
  input_first values (Input a) v h e = sym (some-injective _ v e)
  input_first values (Linear c ts) v h e = absurd (true≢false (sym h))
  input_first values (Bootstrap i t) v h e = absurd (true≢false (sym h))

  -- an input has the bit at its number
  input_value : (xs : List LutNode) (values final : List ℤ) → node_values P bits values xs ≡ some final → (k : ℕ) → k < length xs → is_input (node_at xs k) ≡ true
      → get_or final (length values + k) (pos 0) ≡ pos (get_or bits (length values + k) 0)
  unfolding node_at
  input_value [] values final e k l h = absurd (omega arith)
  input_value (x ∷ xs) values final e zero l h =
      let f = first_value P bits values final x xs e in
      rw add-zero
      (run-kept P bits xs (values ++ (f.0 ∷ [])) final f.2 (length values) (rw length-append (omega arith)) ∙ get_or_at values f.0 [] (pos 0) (length values) refl
      ∙ input_first values x f.0 h f.1)
  input_value (x ∷ xs) values final e (suc k) l h =
      let f = first_value P bits values final x xs e in
      let q : length (values ++ (f.0 ∷ [])) + k ≡ length values + suc k = omega (arith, length-append values (f.0 ∷ [])) in
      subst (λ j. get_or final j (pos 0) ≡ pos (get_or bits j 0)) q (input_value xs (values ++ (f.0 ∷ [])) final f.2 k (omega arith) h)

-- ---- The nodes.

module _ (n : Net) (bits : List ℕ) (good : T (all_bits bits)) (ns : List LutNode) (p : NodesPass n [] ns) (final : List ℤ)
    (run : node_values n.p bits [] ns ≡ some final) (o : List ℕ) where
  abbrev value : ℕ → ℤ
  value j = get_or final j (pos 0)

  abbrev new : ℕ → LutNode
  new j = moved_node (place_in o) (node_at ns j)

  module _ (done rest : List ℕ) (e : done ++ rest ≡ o) where
    value_at : (j : ℕ) → member j done ≡ true → get_or (map value done) (place_in o j) (pos 0) ≡ value j
    value_at j h =
        ap (λ i. get_or (map value done) i (pos 0)) (ap (λ l. place_in l j) (sym e) ∙ place_front done rest j h)
        ∙ get_d_any (map value done) (place_in done j) (pos 0) (value 0) (rw length-map (place_within done j h))
        ∙ get_or-map value done (place_in done j) 0 ∙ ap value (place_at done j 0 h)

    same_sum_lem : (c : ℤ) (ts : List Term) → ((j : ℕ) → member j (sources ts) ≡ true → member j done ≡ true)
        → sum_from (map value done) c (map (moved_term (place_in o)) ts) ≡ sum_from final c ts
    unfolding sources sum_from moved_term
    same_sum_lem c [] w = refl
    same_sum_lem c (t ∷ ts) w =
        ap (λ v. sum_from (map value done) (c +ℤ (t.coef *ℤ v)) (map (moved_term (place_in o)) ts)) (value_at t.node (w t.node (member_head t.node (sources ts))))
        ∙ same_sum_lem (c +ℤ (t.coef *ℤ value t.node)) ts (λ j h. w j (member-tail j t.node (sources ts) h))

    same_value : (x : LutNode) (v : ℤ) → ValueOf n.p final x v → (is_input x ≡ true → v ≡ pos (get_or bits (length done) 0))
        → ((j : ℕ) → member j (needs x) ≡ true → member j done ≡ true) → node_value n.p bits (map value done) (moved_node (place_in o) x) ≡ some v
    unfolding ValueOf is_input needs node_value moved_node
    same_value (Input a) v q f w = rw length-map (ap {B = Option ℤ} some (sym (f refl)))
    same_value (Linear c ts) v q f w = ap {B = Option ℤ} some (same_sum_lem c ts w ∙ sym q)
    same_value (Bootstrap i table) v q f w = ap (rotated n.p table) (value_at i (w i (member_head i []))) ∙ q

  moved_run : (done todo : List ℕ) → done ++ todo ≡ o → Ordered ns done todo → node_values n.p bits (map value done) (map new todo) ≡ some (map value o)
  unfolding node_values with_value Ordered
  moved_run done [] e w = ap {B = Option (List ℤ)} (λ l. some (map value l)) (sym (append-nil done) ∙ e)
  moved_run done (i ∷ todo) e w =
      ap (λ u. with_value u (λ v. node_values n.p bits (map value done ++ (v ∷ [])) (map new todo)))
      (same_value done (i ∷ todo) e (node_at ns i) (value i) (run_value n bits good ns final p run i w.0.within) input w.0.earlier)
      ∙ subst (λ l. node_values n.p bits l (map new todo) ≡ some (map value o)) (map-append value done (i ∷ []))
      (moved_run (done ++ (i ∷ [])) todo (append_assoc done (i ∷ []) todo ∙ e) w.1)
    where
      input : is_input (node_at ns i) ≡ true → value i ≡ pos (get_or bits (length done) 0)
      input h =
          let long : length done ≡ i = ap length (w.0.inputs h) ∙ tabulate-length i (λ k. k) in
          let f = input_value n.p bits ns [] final run i w.0.within h in
          subst (λ k. value i ≡ pos (get_or bits k 0)) (sym long) (rw zero-add at f)

  pub nodes-run : Sorted ns (length ns) o → node_values n.p bits [] (map new o) ≡ some (map value o)
  nodes-run s = moved_run [] o refl s.ordered

  -- ---- The outputs.

  same_wire : Sorted ns (length ns) o → (w : Wire) → no_node (length ns) w ≡ false → wire_value (map value o) (moved_wire (place_in o) w) ≡ wire_value final w
  unfolding no_node wire_value moved_wire
  same_wire s (Const b) e = refl
  same_wire s (Node i) e = value_at o [] (append-nil o) i (s.all i (leb-false (length ns) i e))

  pub same_outputs : Sorted ns (length ns) o → (before os : List Output) → OutputsPass n ns before os
      → output_values (map (moved_output (place_in o)) os) (map value o) ≡ output_values os final
  unfolding OutputsPass output_values moved_output
  same_outputs s before [] q = refl
  same_outputs s before (x ∷ os) q =
      ap₂ {C = List ℤ} (λ v vs. v ∷ vs) (same_wire s x.wire (out_passes n ns before x q.0).earlier) (same_outputs s (before ++ (x ∷ [])) os q.1)
