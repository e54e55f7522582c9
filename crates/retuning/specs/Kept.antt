-- The state that the mapper keeps from before a chosen gate, and how it stands in bytes (document 02, S-14).
use Rattle.std.specs.Prelude.{List, [], ◌∷◌, ◌++◌, map, ℕ, ◌+◌, ◌-◌, ◌/◌, ◌%◌, Bool, true, false, ℤ, pos, nat_abs, ◌+ℤ◌, length, replicate}
use mathlib.Core.List.{flat_map}
use Rattle.std.proofs.Math.Option.{Option, none, some}
use Rattle.rules.specs.declared.Limit.{Limit}
use Rattle.rules.specs.declared.Limit.TheVariants.{Unlimited, AtMost}
use Rattle.rules.specs.declared.Policy.{Policy}
use Rattle.rules.specs.declared.Policy.TheVariants.{Basic, Naive, Span}
use Rattle.rules.specs.declared.Settings.{Settings}
use Rattle.rules.specs.declared.Wire.{Wire}
use Rattle.rules.specs.declared.Wire.TheVariants.{Const, Node}
use Rattle.rules.specs.Builder.{known_entries}
use Rattle.rules.specs.Circuit.{Given, Gate, Output}
use Rattle.rules.specs.Cone.{Cone, values}
use Rattle.rules.specs.Mapper.{State}
use Rattle.rules.specs.Network.{Term, LutNode, Input, Linear, Bootstrap}

-- The settings, the circuit prefix, the `out` lines, and the cones and the node store that the prefix gave.
pub record Kept : Type 0 where
  pub settings : Settings
  pub inputs : List Given
  -- before the chosen one
  pub gates : List Gate
  pub outputs : List Output
  pub state : State

-- ---- Fields.

-- A number below 65,536, the low byte first.
unfoldable pub two_bytes : ℕ → List ℕ
two_bytes n = n % 256 ∷ n / 256 ∷ []

-- A number from -128 to 127, counted from the least one.
unfoldable pub signed_byte : ℤ → ℕ
signed_byte z = nat_abs (z +ℤ pos 128)

-- So many places: these bytes, and zeros behind them.
unfoldable pub padded : ℕ → List ℕ → List ℕ
padded n bytes = bytes ++ replicate (n - length bytes) 0

-- `none` is 0, and K is K + 1.
unfoldable pub limit_bytes : Limit → List ℕ
limit_bytes Unlimited = two_bytes 0
limit_bytes (AtMost k) = two_bytes (k + 1)

unfoldable pub policy_byte : Policy → ℕ
policy_byte Basic = 0
policy_byte Naive = 1
policy_byte Span = 2

unfoldable pub flag_byte : Bool → ℕ
flag_byte false = 0
flag_byte true = 1

unfoldable pub settings_bytes : Settings → List ℕ
settings_bytes s = two_bytes s.p ++ two_bytes s.m ++ two_bytes s.t ++ limit_bytes s.norm ++ (policy_byte s.policy ∷ flag_byte s.many ∷ [])

unfoldable pub wire_bytes : Wire → List ℕ
wire_bytes (Const b) = 0 ∷ b ∷ []
wire_bytes (Node i) = 1 ∷ i ∷ []

-- ---- Cells, each of a length of its own.

unfoldable pub input_cell : Given → List ℕ
input_cell g = padded 18 (g.weight ∷ length g.name ∷ g.name)

-- Its line and its name don't matter.
unfoldable pub gate_cell : Gate → List ℕ
gate_cell g = padded 9 (length g.wires ∷ (flat_map wire_bytes g.wires ++ g.bits))

unfoldable pub output_cell : Output → List ℕ
output_cell o = padded 19 (wire_bytes o.wire ++ (length o.name ∷ o.name))

unfoldable pub term_bytes : Term → List ℕ
term_bytes t = signed_byte t.coef ∷ two_bytes t.node

unfoldable pub node_bytes : LutNode → List ℕ
node_bytes (Input g) = 0 ∷ g.weight ∷ length g.name ∷ g.name
node_bytes (Linear c ts) = 1 ∷ signed_byte c ∷ length ts ∷ flat_map term_bytes ts
node_bytes (Bootstrap i table) = 2 ∷ (two_bytes i ++ (length table ∷ table))

unfoldable pub node_cell : LutNode → List ℕ
node_cell n = padded 36 (node_bytes n)

unfoldable pub entries_or_none : Option (List ℕ) → List ℕ
entries_or_none none = []
entries_or_none (some known) = known

-- Sources, coefficients, and the truth at each value from the least to the greatest, 2 where no row has it.
unfoldable pub cone_bytes : Cone → List ℕ
cone_bytes c = length c.support ∷ (flat_map two_bytes c.support ++ map signed_byte c.coefficients ++ entries_or_none (known_entries (values c) c.truth))

unfoldable pub cone_cell : Cone → List ℕ
cone_cell c = padded 66 (cone_bytes c)

-- ---- The whole, of one length.

-- What is compared with a text: a mark that isn't 0, the settings, the counts, and a cell for each input, gate and output.
unfoldable pub header_bytes : Settings → List Given → List Gate → List Output → List ℕ
header_bytes s inputs gates outputs =
    (1 ∷ settings_bytes s) ++ (length inputs ∷ length gates ∷ length outputs ∷ []) ++ padded 576 (flat_map input_cell inputs) ++ padded 864 (flat_map gate_cell gates)
    ++ padded 608 (flat_map output_cell outputs)

-- Nodes and cones.
unfoldable pub state_bytes : State → List ℕ
state_bytes st = two_bytes (length st.nodes) ++ padded 24192 (flat_map node_cell st.nodes) ++ padded 8448 (flat_map cone_cell st.cones)

unfoldable pub kept_bytes : Kept → List ℕ
kept_bytes k = header_bytes k.settings k.inputs k.gates k.outputs ++ state_bytes k.state

abbrev pub header_length : ℕ
header_length = 2062

abbrev pub kept_length : ℕ
kept_length = 34704
