use Rattle.retuning.specs.Kept.{node_cell}
use Rattle.cells.specs.Pieces.{cell_room, pad_room, padded_put}
use Rattle.keep.proofs.node_cells.put_node.Goals as goal

pub put_node_bytes-requires-clause-room : goal.put_node_bytes-requires-clause-room
unfolding node_cell
put_node_bytes-requires-clause-room c = cell_room 36 c.requires.room

pub pad-requires-clause-room : goal.pad-requires-clause-room
unfolding node_cell
pad-requires-clause-room c = pad_room 36 c.put_node_bytes.ensures c.requires.room

pub returns : goal.returns
unfolding node_cell
returns c = padded_put 36 c.put_node_bytes.ensures c.pad.ensures
