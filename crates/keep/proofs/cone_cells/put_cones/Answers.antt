use Rattle.std.proofs.Common.{sym, ap}
use Rattle.cone.specs.View.{cone_of}
use Rattle.lines.specs.Put.{put_text, room_text}
use Rattle.retuning.specs.Kept.{cone_cell}
use Rattle.cells.specs.Pieces.{flat_seen, pieces_start, piece_room, piece_turn, pieces_done, cell_room, pad_begun, pad_room, padded_put}
use Rattle.keep.proofs.cone_cells.put_cones.Goals as goal

pub loop-cone-init : goal.loop-cone-init
loop-cone-init c = pieces_start (λ x. cone_cell (cone_of x)) _ _ (flat_seen cone_cell cone_of c.args.wires.now)

pub put_cone-requires : goal.put_cone-requires
put_cone-requires c =
    let l = c.loop-cone in
    room_text (ap (λ x. cone_cell (cone_of x)) (sym c.cone-item.is))
    (piece_room (λ x. cone_cell (cone_of x)) c.args.wires.now l.cone-index l.invariant c.cone-item.result c.loop-cone-test.true (cell_room 8448 c.requires))

pub loop-cone-preserved : goal.loop-cone-preserved
loop-cone-preserved c =
    let l = c.loop-cone in
    piece_turn (λ x. cone_cell (cone_of x)) c.args.wires.now l.cone-index l.invariant c.cone-item.result c.loop-cone-test.true
    (put_text (ap (λ x. cone_cell (cone_of x)) (sym c.cone-item.is)) c.put_cone.ensures)

pub pad-requires : goal.pad-requires
pad-requires c =
    let p = pieces_done (λ x. cone_cell (cone_of x)) c.args.wires.now c.loop-cone.cone-index c.loop-cone.invariant c.loop-cone-test.false in
    record { begun = pad_begun 8448 p; room = pad_room 8448 p c.requires }

pub returns : goal.returns
returns c = padded_put 8448 (pieces_done (λ x. cone_cell (cone_of x)) c.args.wires.now c.loop-cone.cone-index c.loop-cone.invariant c.loop-cone-test.false) c.pad.ensures
