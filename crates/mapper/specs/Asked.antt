-- What a circuit that was read gives to the steps.
use Rattle.std.specs.Prelude.{◌≡◌, false, ◌||◌, List, [], ◌∷◌, map, ℕ, suc, zero, ◌+◌, ◌≤◌, ◌<◌, length, get_or, All}
use Rattle.std.proofs.Common.{subst, arith, leb-false, not-suc-le-zero}
use Rattle.std.proofs.lemmas.List.{length-map}
use Rattle.laws.specs.Test.{T-is, neither_left, neither_right}
use Rattle.rules.specs.declared.Settings.{Settings}
use Rattle.rules.specs.declared.Wire.{Wire}
use Rattle.rules.specs.declared.Wire.TheVariants.{Const, Node}
use Rattle.rules.specs.Circuit as C
use Rattle.rules.specs.Circuit.{Name, Given, given_names}
use Rattle.rules.specs.CircuitText.{no_node, any_no_node}
use Rattle.theorems.specs.LineBits.{WireBit}
use Rattle.theorems.specs.SoundCircuits.{Sound, SoundGate, SoundGates, SoundOutputs, GoodNames, name_short, GoodWeights, WireBits}
use Rattle.mapped.specs.NetworkStatements.{output_names}
use Rattle.circuit.specs.declared.Circuit.{Circuit}
use Rattle.circuit.specs.declared.Function.{Function}
use Rattle.circuit.specs.declared.Function.TheVariants.{Unary, Binary}
use Rattle.circuit.specs.declared.Gate.{Gate}
use Rattle.circuit.specs.View.{circuit_of, gate_of, wires_of, answers_of}
use Rattle.forms.specs.Forms.{given_of, output_of}
use Rattle.gates.specs.Wired.{WireIn}
use Rattle.gates.specs.Start.{GoodInput, GoodInputs}
use Rattle.gates.specs.Gates.{GoodFunction, GoodGates}
use Rattle.outputs.specs.Outputs.{AllIn}
use Rattle.conclude.specs.Short.{ShortNames}

-- ---- The inputs.

inputs_good : (is : List Given) → GoodNames (given_names is) → GoodWeights is → (i : ℕ) (d : Given) → i < length is → GoodInput (get_or is i d)
unfolding GoodNames given_names GoodWeights
inputs_good [] n w i d h = absurd (not-suc-le-zero h)
inputs_good (g ∷ is) n w zero d h = (name_short g.name n.0, w.0)
inputs_good (g ∷ is) n w (suc i) d h = inputs_good is n.1 w.1 i d (omega arith)

-- ---- The wires.

wire_in : (n : ℕ) (w : Wire) → no_node n w ≡ false → WireBit w → WireIn n w
unfolding no_node WireBit
wire_in n (Const b) e h = h
wire_in n (Node i) e h = leb-false n i e

function_good : (n line : ℕ) (f : Function) → SoundGate n (record { bits = answers_of f; wires = wires_of f; line = line }) → GoodFunction n f
unfolding any_no_node WireBits
function_good n line (Unary w answers) g =
    record { reads = wire_in n w (neither_left (no_node n w) _ g.earlier) g.constants.0; bits = T-is _ g.answers }
function_good n line (Binary u v answers) g =
    let r : (no_node n v || false) ≡ false = neither_right (no_node n u) _ g.earlier in
    record { reads = (wire_in n u (neither_left (no_node n u) _ g.earlier) g.constants.0, wire_in n v (neither_left (no_node n v) _ r) g.constants.1.0); bits = T-is _ g.answers }

gates_good : (n : ℕ) (gs : List Gate) → SoundGates n (map gate_of gs) → (i : ℕ) (d : Gate) → i < length gs → GoodFunction (n + i) (get_or gs i d).function
unfolding SoundGates
gates_good n [] s i d h = absurd (not-suc-le-zero h)
gates_good n (g ∷ gs) s zero d h = let e : n ≡ n + 0 = omega arith in subst (λ m. GoodFunction m g.function) e (function_good n g.line g.function s.0)
gates_good n (g ∷ gs) s (suc i) d h =
    let e : suc n + i ≡ n + suc i = omega arith in subst (λ m. GoodFunction m (get_or gs i d).function) e (gates_good (suc n) gs s.1 i d (omega arith))

outputs_in : (n : ℕ) (os : List C.Output) → SoundOutputs n os → (i : ℕ) (d : C.Output) → i < length os → WireIn n (get_or os i d).wire
unfolding SoundOutputs
outputs_in n [] s i d h = absurd (not-suc-le-zero h)
outputs_in n (o ∷ os) s zero d h = wire_in n o.wire s.0.node s.0.constant
outputs_in n (o ∷ os) s (suc i) d h = outputs_in n os s.1 i d (omega arith)

names_short : (n : ℕ) (os : List C.Output) → SoundOutputs n os → All (λ (m : Name). length m ≤ 16) (output_names os)
unfolding SoundOutputs
names_short n [] s i d h = absurd (not-suc-le-zero h)
names_short n (o ∷ os) s zero d h = name_short o.name s.0.named
names_short n (o ∷ os) s (suc i) d h = names_short n os s.1 i d (omega arith)

-- ---- The circuit.

module _ (c : Circuit) {settings : Settings} (s : Sound (circuit_of settings c)) where
  pub inputs_asked : GoodInputs (map given_of c.inputs.items)
  inputs_asked = record { few = s.parts.inputs_fit; each = inputs_good _ s.parts.input_names s.parts.weights }

  pub gates_asked : GoodGates (length c.inputs.items) c.gates.items
  gates_asked =
      let f = s.parts.inputs_fit in
      let g = s.parts.gates_fit in
      record {
        few = omega (arith, length-map c.inputs.items given_of, length-map c.gates.items gate_of);
        each = gates_good (length c.inputs.items) c.gates.items (rw (length-map c.inputs.items given_of) at s.parts.gates_sound);
      }

  pub outputs_asked : AllIn (length c.inputs.items + length c.gates.items) (map output_of c.outputs.items)
  outputs_asked = outputs_in _ _ (rw (length-map c.inputs.items given_of, length-map c.gates.items gate_of) at s.parts.outputs_sound)

  pub outputs_few : length c.outputs.items ≤ 32
  outputs_few = let f = s.parts.outputs_fit in omega (arith, length-map c.outputs.items output_of)

  pub names_asked : ShortNames (output_names (map output_of c.outputs.items))
  names_asked =
      let f = s.parts.outputs_fit in
      record { few = omega (arith, length-map (map output_of c.outputs.items) (λ (o : C.Output). o.name)); short = names_short _ _ s.parts.outputs_sound }
