-- The counts of a mapped network, doubled once for each circuit input that pruning dropped, are those over the circuit (document 02, S-12).
use Rattle.std.specs.Prelude.{◌≡◌, Bool, List, [], map, ℕ, ◌+◌, ◌-◌, ◌*◌, ◌^◌, T, eqb, pos, length, get_or, count_by}
use Rattle.std.proofs.Common.{sym, ap, subst, ◌∙◌, arith, le-ltb}
use Rattle.std.proofs.Math.ListN.{get_or-map}
use Rattle.std.proofs.lemmas.List.{length-map}
use Rattle.laws.specs.Integer.{eq_z, eq_z_pos}
use Rattle.laws.specs.Sums.{count_same}
use Rattle.laws.specs.Tabulate.{tabulate, tabulate_same, map-tabulate}
use Rattle.rules.specs.Circuit.{Name, Given, given_names, Output, Circuit, circuit_run}
use Rattle.rules.specs.CircuitText.{read_circuit}
use Rattle.rules.specs.Composition.{assignments}
use Rattle.rules.specs.Form.{Good}
use Rattle.rules.specs.Grades.{too_many_inputs, gives_one, ones_at, ones_of, ones_on, ones, circuit_ones_at, circuit_ones}
use Rattle.rules.specs.Network.{Network, is_input, count, network_run}
use Rattle.rules.specs.NetworkText.{names}
use Rattle.rules.specs.Runs.{bits_for}
use Rattle.rules.specs.Writing.{network_text}
use Rattle.theorems.specs.Assignments.{assignments_bits}
use Rattle.theorems.specs.Names.{names-count}
use Rattle.theorems.specs.SoundTexts.{read_sound}
use Rattle.mapped.specs.ByName.{some_fewer, count_named}
use Rattle.mapped.specs.PrunedNodes.{some_named, names_of}
use Rattle.mapped.specs.NetworkStatements.{bit_named, bits_by_name, SomeOf, inputs_of, MappedCounts}
use Rattle.mapped.proofs.Agrees.{Delivered}

module _ (text : List ℕ) (c : Circuit) (w : Network) (read : read_circuit text ≡ Good c) (d : Delivered text c w) where
  abbrev all : List Name
  all = given_names c.inputs

  abbrev kept : List Name
  kept = names w.nodes

  some : SomeOf kept all
  some = subst (λ ns. SomeOf ns all) (sym (names_of w.nodes)) (some_named (inputs_of w.nodes) c.inputs d.inputs)

  all_long : length all ≡ length c.inputs
  unfolding given_names
  all_long = length-map c.inputs (λ (g : Given). g.name)

  abbrev dropped : ℕ
  dropped = length c.inputs - count is_input w.nodes

  fewer : length c.inputs ≡ dropped + count is_input w.nodes
  fewer = omega (arith, some_fewer kept all some, all_long, names-count w.nodes)

  -- ---- One output.

  one_agrees : (k : ℕ) (bits : List ℕ) → T (bits_for (length c.inputs) bits)
      → eqb (get_or (circuit_run c bits) k 0) 1 ≡ gives_one k (network_run w (bits_by_name c.inputs bits w))
  unfolding gives_one
  one_agrees k bits b =
      sym (ap (gives_one k) (d.agrees bits b) ∙ ap (λ z. eq_z z (pos 1)) (get_or-map pos (circuit_run c bits) k 0) ∙ eq_z_pos (get_or (circuit_run c bits) k 0) 1)

  one_doubled : (k : ℕ) → circuit_ones_at c k ≡ 2 ^ dropped * ones_at w k
  unfolding circuit_ones_at ones_at bits_by_name
  one_doubled k =
      count_same _ (λ bits. f (map (bit_named all bits) kept)) (assignments (length c.inputs)) (λ i e l. one_agrees k _ (assignments_bits (length c.inputs) i e l))
      ∙ subst (λ n. count_by (λ bits. f (map (bit_named all bits) kept)) (assignments n) ≡ 2 ^ dropped * count_by f (assignments (length kept))) all_long
      (count_named [] kept all dropped f (read_sound text c read).parts.different some (omega (arith, fewer, all_long, names-count w.nodes)))
      ∙ ap (λ n. 2 ^ dropped * count_by f (assignments n)) (names-count w.nodes)
    where
      f : List ℕ → Bool
      f bits = gives_one k (network_run w bits)

  -- ---- All outputs.

  outputs_same : length w.outputs ≡ length c.outputs
  outputs_same = sym (length-map w.outputs (λ (o : Output). o.name)) ∙ ap length d.outputs ∙ length-map c.outputs (λ (o : Output). o.name)

  pub text_counts : MappedCounts text (network_text w)
  unfolding circuit_ones ones_of ones ones_on too_many_inputs
  text_counts =
      record {
        circuit = c;
        read = read;
        network = w;
        read_back = d.read_back;
        dropped = dropped;
        fewer = fewer;
        doubled = ap (λ n. tabulate n (circuit_ones_at c)) (sym outputs_same)
            ∙ tabulate_same (length w.outputs) (circuit_ones_at c) (λ k. 2 ^ dropped * ones_at w k) (λ k h. one_doubled k)
            ∙ sym (map-tabulate (λ n. 2 ^ dropped * n) (length w.outputs) (ones_at w));
        answered = λ h. rw (d.read_back, le-ltb 20 (count is_input w.nodes) h);
      }

-- a circuit's counts look at no settings, nor at its inputs' names and weights
pub same_ones : (c d : Circuit) → length c.inputs ≡ length d.inputs → c.gates ≡ d.gates → c.outputs ≡ d.outputs → circuit_ones c ≡ circuit_ones d
unfolding circuit_ones
same_ones c d e f g =
    ap (λ n. tabulate n (circuit_ones_at c)) (ap length g) ∙ tabulate_same (length d.outputs) (circuit_ones_at c) (circuit_ones_at d) (λ k h. same k)
  where
    same : (k : ℕ) → circuit_ones_at c k ≡ circuit_ones_at d k
    same k = unfold circuit_ones_at circuit_run in rw (e, f, g)
