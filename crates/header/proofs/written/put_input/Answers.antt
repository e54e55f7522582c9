use Rattle.retuning.specs.Kept.{input_cell}
use Rattle.cells.specs.Pieces.{cell_room, pad_room, padded_put}
use Rattle.header.proofs.written.put_input.Goals as goal

pub put_given-requires-clause-room : goal.put_given-requires-clause-room
unfolding input_cell
put_given-requires-clause-room c = cell_room 18 c.requires.room

pub pad-requires-clause-room : goal.pad-requires-clause-room
unfolding input_cell
pad-requires-clause-room c = pad_room 18 c.put_given.ensures c.requires.room

pub returns : goal.returns
unfolding input_cell
returns c = padded_put 18 c.put_given.ensures c.pad.ensures
