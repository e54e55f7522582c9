use Rattle.std.specs.Prelude.{[], ◌∷◌, pos}
use Rattle.std.proofs.Common.{sym, ap, ◌∙◌}
use Rattle.lines.specs.Put.{put_text}
use Rattle.retuning.specs.Fields.{word_back}
use Rattle.retuning.specs.Kept.{signed_byte}
use Rattle.cells.specs.Pieces.{flat_bytes, pieces_start, piece_room, piece_turn, pieces_done}
use Rattle.keep.proofs.cone_cells.put_coefficients.Goals as goal

pub loop-c-init : goal.loop-c-init
loop-c-init c = pieces_start (λ z. signed_byte z ∷ []) _ _ (flat_bytes signed_byte c.args.coefs.now)

pub put-requires : goal.put-requires
put-requires c =
    let l = c.loop-c in
    record { fits = (piece_room (λ z. signed_byte z ∷ []) c.args.coefs.now l.c-index l.invariant (pos 0) c.loop-c-test.true c.requires.room).fits }

pub loop-c-preserved : goal.loop-c-preserved
loop-c-preserved c =
    let l = c.loop-c in
    let e = c.signed_byte.ensures ∙ ap signed_byte (word_back _ (c.requires.small l.c-index)) in
    piece_turn (λ z. signed_byte z ∷ []) c.args.coefs.now l.c-index l.invariant (pos 0) c.loop-c-test.true (put_text (ap (λ b. b ∷ []) (sym e)) c.put.ensures)

pub returns : goal.returns
returns c = pieces_done (λ z. signed_byte z ∷ []) c.args.coefs.now c.loop-c.c-index c.loop-c.invariant c.loop-c-test.false
