use Rattle.retuning.specs.Kept.{cone_cell}
use Rattle.cells.specs.Pieces.{cell_room, pad_room, padded_put}
use Rattle.keep.proofs.cone_cells.put_cone.Goals as goal

pub put_cone_bytes-requires : goal.put_cone_bytes-requires
unfolding cone_cell
put_cone_bytes-requires c = cell_room 66 c.requires

pub pad-requires-clause-room : goal.pad-requires-clause-room
unfolding cone_cell
pad-requires-clause-room c = pad_room 66 c.put_cone_bytes.ensures c.requires

pub returns : goal.returns
unfolding cone_cell
returns c = padded_put 66 c.put_cone_bytes.ensures c.pad.ensures
