use Rattle.std.specs.Prelude.{map}
use mathlib.Core.List.{flat_map}
use Rattle.circuit.specs.View.{gate_of}
use Rattle.lines.specs.Put.{Left}
use Rattle.retuning.specs.Kept.{gate_cell}
use Rattle.cells.specs.Pieces.{pieces_left}
use Rattle.header.proofs.written.put_gates.Given as goal

abbrev pub invariant-loop-gate : goal.invariant-loop-gate
invariant-loop-gate l = Left (flat_map gate_cell (map gate_of l.gates)) l.initial.cursor (pieces_left (λ x. gate_cell (gate_of x)) l.gates l.gate-index) l.cursor
