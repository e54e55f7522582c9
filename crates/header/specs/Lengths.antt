-- How long the header is.
use Rattle.std.specs.Prelude.{◌≡◌, List, length, get_or}
use mathlib.Core.List.{flat_map}
use Rattle.std.proofs.Common.{arith, length-append}
use Rattle.rules.specs.declared.Settings.{Settings}
use Rattle.rules.specs.Circuit.{Given, Gate, Output}
use Rattle.retuning.specs.Cells.{padded-length, table-length}
use Rattle.retuning.specs.HeaderBytes.{settings-length, wires-length, input-length, output-length}
use Rattle.retuning.specs.Kept.{padded, wire_bytes, input_cell, gate_cell, output_cell, header_bytes}
use Rattle.header.specs.Small.{SmallGate, Small}

gate-long : (g : Gate) → SmallGate g → length (gate_cell g) ≡ 9
unfolding gate_cell
gate-long g h = padded-length 9 _ (omega (arith, h.few, h.bits, length-append (flat_map wire_bytes g.wires) g.bits, wires-length g.wires))

module _ {s : Settings} {is : List Given} {gs : List Gate} {os : List Output} (h : Small s is gs os) where
  inputs-long : length (padded 576 (flat_map input_cell is)) ≡ 576
  inputs-long = table-length input_cell 18 576 is (λ i d l. input-length (get_or is i d) (h.inputs i d l)) (omega (arith, h.inputs_few))

  gates-long : length (padded 864 (flat_map gate_cell gs)) ≡ 864
  gates-long = table-length gate_cell 9 864 gs (λ i d l. gate-long (get_or gs i d) (h.gates i d l)) (omega (arith, h.gates_few))

  outputs-long : length (padded 608 (flat_map output_cell os)) ≡ 608
  outputs-long = table-length output_cell 19 608 os (λ i d l. output-length (get_or os i d) (h.outputs i d l).name) (omega (arith, h.outputs_few))

  pub header-long : length (header_bytes s is gs os) ≡ 2062
  unfolding header_bytes
  header-long = simp length-append (omega (arith, settings-length s, inputs-long, gates-long, outputs-long))
