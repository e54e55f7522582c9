use Rattle.std.specs.Prelude.{map}
use mathlib.Core.List.{flat_map}
use Rattle.forms.specs.Forms.{output_of}
use Rattle.lines.specs.Put.{Left}
use Rattle.retuning.specs.Kept.{output_cell}
use Rattle.cells.specs.Pieces.{pieces_left}
use Rattle.header.proofs.written.put_outputs.Given as goal

abbrev pub invariant-loop-output : goal.invariant-loop-output
invariant-loop-output l = Left (flat_map output_cell (map output_of l.outputs)) l.initial.cursor (pieces_left (λ x. output_cell (output_of x)) l.outputs l.output-index) l.cursor
