use Rattle.std.proofs.Common.{refl}
use Rattle.retuning.specs.Kept.{two_bytes}
use Rattle.cells.specs.Pieces.{pieces_start, piece_room, piece_turn, pieces_done}
use Rattle.keep.proofs.cone_cells.put_sources.Goals as goal

pub loop-source-init : goal.loop-source-init
loop-source-init c = pieces_start two_bytes _ _ refl

pub put_two-requires-clause-room : goal.put_two-requires-clause-room
put_two-requires-clause-room c =
    let l = c.loop-source in
    piece_room two_bytes c.args.sources.now l.source-index l.invariant 0 c.loop-source-test.true c.requires.room

pub loop-source-preserved : goal.loop-source-preserved
loop-source-preserved c =
    let l = c.loop-source in
    piece_turn two_bytes c.args.sources.now l.source-index l.invariant 0 c.loop-source-test.true c.put_two.ensures

pub returns : goal.returns
returns c = pieces_done two_bytes c.args.sources.now c.loop-source.source-index c.loop-source.invariant c.loop-source-test.false
