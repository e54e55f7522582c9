use Rattle.forms.specs.Forms.{given_of}
use Rattle.retuning.specs.Kept.{input_cell}
use Rattle.header.specs.Small.{SmallInput, seen_at}
use Rattle.cells.specs.Pieces.{flat_seen, pieces_start, piece_room, piece_turn, pieces_done, cell_room, pad_begun, pad_room, padded_put}
use Rattle.header.proofs.written.put_inputs.Goals as goal

pub loop-input-init : goal.loop-input-init
loop-input-init c = pieces_start (λ x. input_cell (given_of x)) _ _ (flat_seen input_cell given_of c.args.inputs.now)

pub put_input-requires : goal.put_input-requires
put_input-requires c =
    let l = c.loop-input in
    record {
      small = seen_at SmallInput given_of c.args.inputs.now l.input-index _ c.loop-input-test.true c.requires.small;
      room = piece_room (λ x. input_cell (given_of x)) c.args.inputs.now l.input-index l.invariant _ c.loop-input-test.true (cell_room 576 c.requires.room);
    }

pub loop-input-preserved : goal.loop-input-preserved
loop-input-preserved c =
    let l = c.loop-input in
    piece_turn (λ x. input_cell (given_of x)) c.args.inputs.now l.input-index l.invariant _ c.loop-input-test.true c.put_input.ensures

pub pad-requires : goal.pad-requires
pad-requires c =
    let p = pieces_done (λ x. input_cell (given_of x)) c.args.inputs.now c.loop-input.input-index c.loop-input.invariant c.loop-input-test.false in
    record { begun = pad_begun 576 p; room = pad_room 576 p c.requires.room }

pub returns : goal.returns
returns c = padded_put 576 (pieces_done (λ x. input_cell (given_of x)) c.args.inputs.now c.loop-input.input-index c.loop-input.invariant c.loop-input-test.false) c.pad.ensures
