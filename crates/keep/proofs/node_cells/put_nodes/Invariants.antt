use mathlib.Core.List.{flat_map}
use Rattle.nodes.specs.Store.{store_of}
use Rattle.retuning.specs.Kept.{node_cell}
use Rattle.lines.specs.Put.{Left}
use Rattle.cells.specs.Pieces.{pieces_left}
use Rattle.keep.proofs.node_cells.put_nodes.Given as goal

abbrev pub invariant-loop-i : goal.invariant-loop-i
invariant-loop-i l = Left (flat_map node_cell (store_of l.store)) l.initial.cursor (pieces_left node_cell (store_of l.store) l.i) l.cursor
