-- The mapper with the cap's test taken out: the definitions of crates/rules/specs/Mapper.antt from `compose` up, with that test left out and nothing else changed.
use Rattle.std.specs.Prelude.{List, [], ◌∷◌, ◌++◌, map, ℕ, ◌+◌, ◌*◌, length, get_or, drop, take}
use Rattle.std.proofs.Math.Option
use Rattle.std.proofs.Math.Option.{Option, some}
use Rattle.laws.specs.Test.{if◌then◌otherwise◌}
use Rattle.rules.specs.declared.Settings.{Settings}
use Rattle.rules.specs.Circuit.{Gate, Output, Circuit}
use Rattle.rules.specs.CircuitText.{read_circuit}
use Rattle.rules.specs.Composition.{union_support, gate_truth, all_equal, find_candidate, merge_cones}
use Rattle.rules.specs.Cone.{Cone, constant, Result, ok, err, ◌>>=◌}
use Rattle.rules.specs.Form.{Reading, Good}
use Rattle.rules.specs.Mapper.{Mapped, map_unary_gate, Sides, sides, bootstrap_left, bootstrap_right, larger_first, limit_sources, or_else, is_constant, constant_value, State, cone_at, replaced, is_forced, forced, at_line, and_then, start, finish, used_settings, answer_with}
use Rattle.rules.specs.Network.{LutNode, Network}
use Rattle.rules.specs.Outcome.{Outcome}

unfoldable pub uncapped_compose : Settings → List LutNode → Cone → Cone → List ℕ → Option Cone
uncapped_compose s nodes left right gate =
    let support = union_support left.support right.support in
    let truth = gate_truth support left right gate in
    let merged = Option.map merge_cones (find_candidate s nodes support left right truth) in
    if all_equal truth then some (constant (get_or truth 0 0)) otherwise merged

unfoldable pub uncapped_attempt : Settings → Sides → Option Cone
uncapped_attempt s w = uncapped_compose s w.nodes w.left.cone w.right.cone w.gate

unfoldable pub uncapped_third : Settings → Sides → Result Mapped
uncapped_third s w = let v = bootstrap_right s w in or_else v (uncapped_attempt s v) (err 9)

unfoldable pub uncapped_second : Settings → Sides → Result Mapped
uncapped_second s w = let v = bootstrap_left s w in or_else v (uncapped_attempt s v) (uncapped_third s v)

unfoldable pub uncapped_binary_gate : Settings → List LutNode → Cone → Cone → List ℕ → Result Mapped
uncapped_binary_gate s nodes left right gate =
    let w = limit_sources s (larger_first (sides nodes left right gate)) in or_else w (uncapped_attempt s w) (uncapped_second s w)

unfoldable pub uncapped_gate : Settings → List LutNode → List Cone → List ℕ → Result Mapped
uncapped_gate s nodes [] gate = err 7
uncapped_gate s nodes (c ∷ []) gate = map_unary_gate s nodes c gate
uncapped_gate s nodes (left ∷ right ∷ []) gate =
    if is_constant left then map_unary_gate s nodes right (take 2 (drop (2 * constant_value left) gate))
    otherwise if is_constant right then map_unary_gate s nodes left (get_or gate (constant_value right) 0 ∷ get_or gate (2 + constant_value right) 0 ∷ [])
    otherwise uncapped_binary_gate s nodes left right gate
uncapped_gate s nodes (a ∷ b ∷ c ∷ cs) gate = err 7

unfoldable pub uncapped_next : Settings → List Output → State → Gate → Result State
uncapped_next s outputs st g = do
  m ← uncapped_gate s st.nodes (map (cone_at st.cones) g.wires) g.bits
  let b = forced s (is_forced s outputs (length st.cones)) m in
      ok (record { nodes = b.nodes; cones = replaced g.wires m st.cones ++ (b.cone ∷ []) })

unfoldable pub uncapped_gates : Settings → List Output → State → List Gate → Reading State
uncapped_gates s outputs st [] = Good st
uncapped_gates s outputs st (g ∷ gs) = and_then (at_line g.line (uncapped_next s outputs st g)) (λ r. uncapped_gates s outputs r gs)

unfoldable pub uncapped_with : Settings → Circuit → Reading Network
uncapped_with s c = and_then (uncapped_gates s c.outputs (start c) c.gates) (finish s c.outputs)

unfoldable pub uncapped_circuit : Circuit → Reading Network
uncapped_circuit c = uncapped_with (used_settings c.settings) c

unfoldable pub uncapped_mapper : List ℕ → List ℕ → Outcome
uncapped_mapper text buffer = answer_with buffer (and_then (read_circuit text) uncapped_circuit)
