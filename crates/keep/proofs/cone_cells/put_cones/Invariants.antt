use Rattle.std.specs.Prelude.{map}
use mathlib.Core.List.{flat_map}
use Rattle.cone.specs.View.{cone_of}
use Rattle.retuning.specs.Kept.{cone_cell}
use Rattle.lines.specs.Put.{Left}
use Rattle.cells.specs.Pieces.{pieces_left}
use Rattle.keep.proofs.cone_cells.put_cones.Given as goal

abbrev pub invariant-loop-cone : goal.invariant-loop-cone
invariant-loop-cone l = Left (flat_map cone_cell (map cone_of l.wires)) l.initial.cursor (pieces_left (λ c. cone_cell (cone_of c)) l.wires l.cone-index) l.cursor
