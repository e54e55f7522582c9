use Rattle.retuning.specs.Kept.{gate_cell}
use Rattle.header.specs.Header.{function_bytes}
use Rattle.cells.specs.Pieces.{cell_room, pad_room, padded_put}
use Rattle.header.proofs.written.put_gate.Goals as goal

pub put_function-requires-clause-room : goal.put_function-requires-clause-room
unfolding gate_cell function_bytes
put_function-requires-clause-room c = cell_room 9 c.requires.room

pub pad-requires-clause-room : goal.pad-requires-clause-room
unfolding gate_cell function_bytes
pad-requires-clause-room c = pad_room 9 c.put_function.ensures c.requires.room

pub returns : goal.returns
unfolding gate_cell function_bytes
returns c = padded_put 9 c.put_function.ensures c.pad.ensures
