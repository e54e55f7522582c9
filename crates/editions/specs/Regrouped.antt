-- A regrouped network is admissible, has the same inputs and outputs, and runs as before (document 02, S-11).
use Rattle.std.specs.Prelude.{◌≡◌, true, false, T, length, take}
use Rattle.std.proofs.Math.Path.{refl, sym, ap}
use Rattle.std.proofs.Common.{◌∙◌, true≢false, ⊎_elim, arith}
use mathlib.Core.List.{List, [], ◌∷◌, ◌++◌, map, map-map, append_assoc, append-nil, map-append}
use Rattle.std.proofs.Math.Option
use Rattle.std.proofs.Math.Option.{some}
use Prim.Native.Nat.{ℕ, zero, suc, ◌<◌, ◌≤◌}
use Rattle.std.proofs.Math.Seq.{take-length}
use Rattle.laws.specs.Select.{any}
use Rattle.laws.specs.Test.{decide}
use Rattle.rules.specs.Circuit.{Given}
use Rattle.rules.specs.Network.{LutNode, Input, Linear, Bootstrap, Network, is_input, output_values, network_run, node_at}
use Rattle.rules.specs.Regroup.{behind, order_up_to, order, place_in, moved_node, moved_output, reordered, regrouped}
use Rattle.rules.specs.Runs.{all_bits}
use Rattle.theorems.specs.Admissible.{net_of, Admissible}
use Rattle.theorems.specs.AdmittedSafe.{Safe}
use Rattle.theorems.proofs.AdmittedSafe.{safe_on}
use Rattle.mapped.specs.NetworkStatements.{inputs_of}
use Rattle.mapped.proofs.Pruned.{inputs-append}
use Rattle.editions.specs.Places.{Put, behind_none, behind_some}
use Rattle.editions.specs.NewOrder.{Sorted, order-sorted, group_no_input}
use Rattle.editions.specs.MovedPasses.{front_placed, nodes_pass, outputs_pass}
use Rattle.editions.specs.MovedRuns.{nodes-run, same_outputs}
use Rattle.editions.specs.Statements.{shares}

-- ---- The inputs keep their order.

no_input : (x : LutNode) (xs : List LutNode) → is_input x ≡ false → inputs_of (x ∷ xs) ≡ inputs_of xs
unfolding is_input inputs_of
no_input (Input a) xs h = absurd (true≢false h)
no_input (Linear c ts) xs h = refl
no_input (Bootstrap i t) xs h = refl

no_input_within : (xs ys : List LutNode) (x : LutNode) → is_input x ≡ false → inputs_of (xs ++ (x ∷ ys)) ≡ inputs_of (xs ++ ys)
no_input_within xs ys x h = inputs-append xs (x ∷ ys) ∙ ap (λ l. inputs_of xs ++ l) (no_input x ys h) ∙ sym (inputs-append xs ys)

same_inputs : (to : ℕ → ℕ) (xs : List LutNode) → inputs_of (map (moved_node to) xs) ≡ inputs_of xs
unfolding inputs_of moved_node
same_inputs to [] = refl
same_inputs to (Input a ∷ xs) = ap {B = List Given} (λ l. a ∷ l) (same_inputs to xs)
same_inputs to (Linear c ts ∷ xs) = same_inputs to xs
same_inputs to (Bootstrap i table ∷ xs) = same_inputs to xs

take_next : (k : ℕ) (ns : List LutNode) → k < length ns → take (suc k) ns ≡ take k ns ++ (node_at ns k ∷ [])
unfolding node_at
take_next k [] l = absurd (omega arith)
take_next zero (x ∷ ns) l = refl
take_next (suc k) (x ∷ ns) l = ap {B = List LutNode} (λ r. x ∷ r) (take_next k ns (omega arith))

module _ (ns : List LutNode) where
  next_inputs : (k : ℕ) → k < length ns → inputs_of (map (node_at ns) (order_up_to ns k)) ≡ inputs_of (take k ns)
      → inputs_of (map (node_at ns) (behind (shares ns k) k (order_up_to ns k))) ≡ inputs_of (take (suc k) ns)
  next_inputs k l e =
      ⊎_elim (λ (h : any (shares ns k) (order_up_to ns k) ≡ true). in_group (behind_some (shares ns k) k (order_up_to ns k) h)) at-end
      (decide (any (shares ns k) (order_up_to ns k)))
    where
      at-end : any (shares ns k) (order_up_to ns k) ≡ false → inputs_of (map (node_at ns) (behind (shares ns k) k (order_up_to ns k))) ≡ inputs_of (take (suc k) ns)
      at-end h =
          ap (λ o. inputs_of (map (node_at ns) o)) (behind_none (shares ns k) k (order_up_to ns k) h)
          ∙ ap inputs_of (map-append (node_at ns) (order_up_to ns k) (k ∷ []))
          ∙ inputs-append (map (node_at ns) (order_up_to ns k)) (node_at ns k ∷ []) ∙ ap (λ m. m ++ inputs_of (node_at ns k ∷ [])) e
          ∙ sym (inputs-append (take k ns) (node_at ns k ∷ [])) ∙ ap inputs_of (sym (take_next k ns l))

      in_group : Put (shares ns k) k (order_up_to ns k) → inputs_of (map (node_at ns) (behind (shares ns k) k (order_up_to ns k))) ≡ inputs_of (take (suc k) ns)
      in_group q =
          let out = (group_no_input (node_at ns k) (node_at ns q.at) q.holds).0 in
          let f = map (node_at ns) q.front in
          let b = map (node_at ns) q.back in
          ap (λ o. inputs_of (map (node_at ns) o)) q.is ∙ ap inputs_of (map-append (node_at ns) q.front (q.at ∷ k ∷ q.back))
          ∙ ap inputs_of (sym (append_assoc f (node_at ns q.at ∷ []) (node_at ns k ∷ b)))
          ∙ no_input_within (f ++ (node_at ns q.at ∷ [])) b (node_at ns k) out
          ∙ ap inputs_of (append_assoc f (node_at ns q.at ∷ []) b) ∙ ap inputs_of (sym (map-append (node_at ns) q.front (q.at ∷ q.back)))
          ∙ ap (λ o. inputs_of (map (node_at ns) o)) (sym q.was) ∙ e
          ∙ ap inputs_of (sym (append-nil (take k ns))) ∙ sym (no_input_within (take k ns) [] (node_at ns k) out) ∙ ap inputs_of (sym (take_next k ns l))

  order-inputs : (k : ℕ) → k ≤ length ns → inputs_of (map (node_at ns) (order_up_to ns k)) ≡ inputs_of (take k ns)
  unfolding order_up_to
  order-inputs zero l = refl
  order-inputs (suc k) l = next_inputs k l (order-inputs k (omega arith))

  moved_inputs : (to : ℕ → ℕ) → inputs_of (map (λ j. moved_node to (node_at ns j)) (order ns)) ≡ inputs_of ns
  unfolding order
  moved_inputs to =
      ap inputs_of (sym (map-map (moved_node to) (node_at ns) (order ns))) ∙ same_inputs to (map (node_at ns) (order ns)) ∙ order-inputs (length ns) (omega arith)
      ∙ ap inputs_of (take-length ns)

pub regrouped_inputs : (w : Network) → inputs_of (regrouped w).nodes ≡ inputs_of w.nodes
unfolding regrouped reordered
regrouped_inputs w = moved_inputs w.nodes (place_in (order w.nodes))

module _ (w : Network) (a : Admissible w) where
  pub sorted : Sorted w.nodes (length w.nodes) (order w.nodes)
  sorted = order-sorted (net_of w) w.nodes a.nodes

  pub regrouped_admissible : Admissible (regrouped w)
  unfolding regrouped reordered net_of
  regrouped_admissible =
      record {
        limits = a.limits;
        nodes = nodes_pass (net_of w) w.nodes a.nodes (order w.nodes) sorted;
        outputs =
            outputs_pass (net_of w) w.nodes (place_in (order w.nodes)) (order w.nodes) _
            (front_placed (net_of w) w.nodes a.nodes (order w.nodes) (order w.nodes) [] (append-nil (order w.nodes))) sorted.all [] [] w.outputs refl a.outputs;
      }

  pub regrouped_agrees : (bits : List ℕ) → T (all_bits bits) → network_run (regrouped w) bits ≡ network_run w bits
  unfolding regrouped reordered network_run net_of
  regrouped_agrees bits b =
      ap (Option.map (output_values (map (moved_output (place_in (order w.nodes))) w.outputs)))
      (nodes-run (net_of w) bits b w.nodes a.nodes safe.values safe.run (order w.nodes) sorted)
      ∙ ap some (same_outputs (net_of w) bits b w.nodes a.nodes safe.values safe.run (order w.nodes) sorted [] w.outputs a.outputs)
      ∙ sym safe.outputs
    where
      safe : Safe w bits
      safe = safe_on w bits a b
