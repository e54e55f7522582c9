use Rattle.std.specs.Prelude.{map}
use mathlib.Core.List.{flat_map}
use Rattle.forms.specs.Forms.{given_of}
use Rattle.lines.specs.Put.{Left}
use Rattle.retuning.specs.Kept.{input_cell}
use Rattle.cells.specs.Pieces.{pieces_left}
use Rattle.header.proofs.written.put_inputs.Given as goal

abbrev pub invariant-loop-input : goal.invariant-loop-input
invariant-loop-input l = Left (flat_map input_cell (map given_of l.inputs)) l.initial.cursor (pieces_left (λ x. input_cell (given_of x)) l.inputs l.input-index) l.cursor
