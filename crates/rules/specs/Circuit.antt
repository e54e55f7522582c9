-- A Boolean circuit (document 01, "The text forms"), and its run.
use Rattle.std.specs.Prelude.{List, [], ◌∷◌, ◌++◌, map, ℕ, ◌+◌, ◌*◌, get_or}
use Rattle.rules.specs.declared.Wire.{Wire}
use Rattle.rules.specs.declared.Wire.TheVariants.{Const, Node}
use Rattle.rules.specs.declared.Settings.{Settings}

-- A name is its bytes.
abbrev pub Name : Type 0
Name = List ℕ

-- What an `in` line gives: a name, and the weight by which the input counts in a norm (document 02, S-6).
pub record Given : Type 0 where
  pub name : Name
  pub weight : ℕ

unfoldable pub given_names : List Given → List Name
given_names gs = map (λ (g : Given). g.name) gs

-- A gate: its answers at 0, 1 or at 2 × left + right; its one or two wires; the line it stands on.
pub record Gate : Type 0 where
  pub bits : List ℕ
  pub wires : List Wire
  pub line : ℕ

pub record Output : Type 0 where
  pub name : Name
  pub wire : Wire

-- Nodes count from 0 over the inputs and then the gates.
pub record Circuit : Type 0 where
  pub settings : Settings
  pub inputs : List Given
  pub gates : List Gate
  pub outputs : List Output

-- ---- The circuit run: nodes in order, each to its bit.

-- `(n ID)` is that node, `(k b)` is b.
unfoldable pub wire_bit : List ℕ → Wire → ℕ
wire_bit values (Const b) = b
wire_bit values (Node i) = get_or values i 0

-- The wires read as a number, the first the highest bit: 0, 1, or 2 × left + right.
unfoldable pub position : ℕ → List ℕ → List Wire → ℕ
position n values [] = n
position n values (w ∷ ws) = position (2 * n + wire_bit values w) values ws

-- A gate is its answer in BITS.
unfoldable pub gate_bit : List ℕ → Gate → ℕ
gate_bit values g = get_or g.bits (position 0 values g.wires) 0

-- The bits of the inputs, and after them a bit for each gate.
unfoldable pub gate_values : List ℕ → List Gate → List ℕ
gate_values values [] = values
gate_values values (g ∷ gs) = gate_values (values ++ (gate_bit values g ∷ [])) gs

-- One bit an output, in the order of the text.
unfoldable pub circuit_run : Circuit → List ℕ → List ℕ
circuit_run c bits = map (λ o. wire_bit (gate_values bits c.gates) o.wire) c.outputs
