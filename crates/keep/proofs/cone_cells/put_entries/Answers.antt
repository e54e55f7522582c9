use Rattle.std.specs.Prelude.{[], ◌∷◌}
use Rattle.std.proofs.Common.{sym, ap}
use Rattle.lines.specs.Put.{put_text}
use Rattle.rules.specs.declared.Entry.TheVariants.{Unknown}
use Rattle.rotation.specs.Entries.{number_of_entry}
use Rattle.cells.specs.Pieces.{flat_bytes, pieces_start, piece_room, piece_turn, pieces_done}
use Rattle.keep.proofs.cone_cells.put_entries.Goals as goal

pub loop-entry-init : goal.loop-entry-init
loop-entry-init c = pieces_start (λ x. number_of_entry x ∷ []) _ _ (flat_bytes number_of_entry c.args.known.now)

pub put-requires : goal.put-requires
put-requires c =
    let l = c.loop-entry in
    record { fits = (piece_room (λ x. number_of_entry x ∷ []) c.args.known.now l.entry-index l.invariant Unknown c.loop-entry-test.true c.requires).fits }

pub loop-entry-preserved : goal.loop-entry-preserved
loop-entry-preserved c =
    let l = c.loop-entry in
    piece_turn (λ x. number_of_entry x ∷ []) c.args.known.now l.entry-index l.invariant _ c.loop-entry-test.true
    (put_text (ap (λ b. b ∷ []) (sym c.number_of.ensures)) c.put.ensures)

pub returns : goal.returns
returns c = pieces_done (λ x. number_of_entry x ∷ []) c.args.known.now c.loop-entry.entry-index c.loop-entry.invariant c.loop-entry-test.false
