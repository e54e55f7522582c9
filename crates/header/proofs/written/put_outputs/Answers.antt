use Rattle.forms.specs.Forms.{output_of}
use Rattle.retuning.specs.Kept.{output_cell}
use Rattle.header.specs.Small.{SmallOutput, seen_at}
use Rattle.cells.specs.Pieces.{flat_seen, pieces_start, piece_room, piece_turn, pieces_done, cell_room, pad_begun, pad_room, padded_put}
use Rattle.header.proofs.written.put_outputs.Goals as goal

pub loop-output-init : goal.loop-output-init
loop-output-init c = pieces_start (λ x. output_cell (output_of x)) _ _ (flat_seen output_cell output_of c.args.outputs.now)

pub put_output-requires : goal.put_output-requires
put_output-requires c =
    let l = c.loop-output in
    record {
      small = seen_at SmallOutput output_of c.args.outputs.now l.output-index _ c.loop-output-test.true c.requires.small;
      room = piece_room (λ x. output_cell (output_of x)) c.args.outputs.now l.output-index l.invariant _ c.loop-output-test.true (cell_room 608 c.requires.room);
    }

pub loop-output-preserved : goal.loop-output-preserved
loop-output-preserved c =
    let l = c.loop-output in
    piece_turn (λ x. output_cell (output_of x)) c.args.outputs.now l.output-index l.invariant _ c.loop-output-test.true c.put_output.ensures

pub pad-requires : goal.pad-requires
pad-requires c =
    let p = pieces_done (λ x. output_cell (output_of x)) c.args.outputs.now c.loop-output.output-index c.loop-output.invariant c.loop-output-test.false in
    record { begun = pad_begun 608 p; room = pad_room 608 p c.requires.room }

pub returns : goal.returns
returns c =
    padded_put 608 (pieces_done (λ x. output_cell (output_of x)) c.args.outputs.now c.loop-output.output-index c.loop-output.invariant c.loop-output-test.false) c.pad.ensures
