use Rattle.lines.specs.Put.{put_both, room, shorter}
use Rattle.retuning.specs.Kept.{output_cell}
use Rattle.cells.specs.Pieces.{cell_room, pad_room, padded_put}
use Rattle.header.proofs.written.put_output.Goals as goal

pub put_wire-requires-clause-room : goal.put_wire-requires-clause-room
unfolding output_cell
put_wire-requires-clause-room c = shorter _ (cell_room 19 c.requires.room)

pub put_counted-requires-clause-room : goal.put_counted-requires-clause-room
unfolding output_cell
put_counted-requires-clause-room c = room c.put_wire.ensures (cell_room 19 c.requires.room)

pub pad-requires-clause-room : goal.pad-requires-clause-room
unfolding output_cell
pad-requires-clause-room c = pad_room 19 (put_both c.put_wire.ensures c.put_counted.ensures) c.requires.room

pub returns : goal.returns
unfolding output_cell
returns c = padded_put 19 (put_both c.put_wire.ensures c.put_counted.ensures) c.pad.ensures
