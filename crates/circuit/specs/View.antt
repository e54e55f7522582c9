-- A circuit as the code holds it, seen as the definition's.
use Rattle.std.specs.Prelude as P
use Rattle.std.specs.Prelude.{List, [], ◌∷◌, map, length, ℕ}
use Rattle.std.proofs.Math.Option.{Option, none, some}
use Rattle.laws.specs.Test.{is_some}
use Rattle.rules.specs.declared.Refusal.{Refusal}
use Rattle.rules.specs.declared.Settings.{Settings}
use Rattle.rules.specs.declared.Wire.{Wire}
use Rattle.rules.specs.Circuit as C
use Rattle.rules.specs.CircuitText.{Prefix}
use Rattle.rules.specs.Form.{Reading, Good, Refused}
use Rattle.rules.specs.Refusal.{reason_number}
use Rattle.forms.specs.Forms.{given_of, output_of}
use Rattle.circuit_conditions.specs.declared.Counts.{Counts}
use Rattle.circuit.specs.declared.Circuit.{Circuit}
use Rattle.circuit.specs.declared.Function.{Function}
use Rattle.circuit.specs.declared.Function.TheVariants.{Unary, Binary}
use Rattle.circuit.specs.declared.Gate.{Gate}

abbrev pub wires_of : Function → List Wire
wires_of (Unary w answers) = w ∷ []
wires_of (Binary u v answers) = u ∷ v ∷ []

abbrev pub answers_of : Function → List ℕ
answers_of (Unary w answers) = answers
answers_of (Binary u v answers) = answers

abbrev pub gate_of : Gate → C.Gate
gate_of g = record { bits = answers_of g.function; wires = wires_of g.function; line = g.line }

-- With its `fbs` line.
abbrev pub circuit_of : Settings → Circuit → C.Circuit
circuit_of s c =
    record {
      settings = s;
      inputs = map given_of c.inputs.items;
      gates = map gate_of c.gates.items;
      outputs = map output_of c.outputs.items;
    }

-- What the reader answers beside the circuit that it filled.
abbrev pub reading_of : P.Result Settings Refusal → Circuit → Reading C.Circuit
reading_of (P.Ok s) c = Good (circuit_of s c)
reading_of (P.Err r) c = Refused (reason_number r.reason) r.line

-- What the lines so far say.
abbrev pub option_of : {A : Type 0} → P.Option A → Option A
option_of P.None = none
option_of (P.Some s) = some s

abbrev pub prefix_of : Circuit → Prefix
prefix_of c =
    record {
      settings = option_of c.settings;
      inputs = map given_of c.inputs.items;
      gates = map gate_of c.gates.items;
      outputs = map output_of c.outputs.items;
    }

-- What of them a line is judged by.
abbrev pub counts_of : Prefix → Counts
counts_of p = record { started = is_some p.settings; inputs = length p.inputs; gates = length p.gates; outputs = length p.outputs }
