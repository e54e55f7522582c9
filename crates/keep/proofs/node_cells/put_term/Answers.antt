use Rattle.std.specs.Prelude.{[], ◌∷◌}
use Rattle.std.proofs.Common.{arith, sym, ap, ◌∙◌}
use Rattle.nodes.specs.Norm.{coef_read}
use Rattle.nodes.specs.View.{term}
use Rattle.lines.specs.Put.{put_both, put_text}
use Rattle.retuning.specs.Kept.{two_bytes, signed_byte, term_bytes}
use Rattle.keep.proofs.node_cells.put_term.Goals as goal

pub put_two-requires-clause-room : goal.put_two-requires-clause-room
unfolding term_bytes two_bytes
put_two-requires-clause-room c = record { fits = omega (arith, c.put.ensures.place, c.requires.room.fits) }

pub returns : goal.returns
unfolding term_bytes term
returns c =
    let e = c.signed_byte.ensures ∙ ap signed_byte (coef_read _ c.requires.small.0) in
    put_both (put_text (ap (λ b. b ∷ []) (sym e)) c.put.ensures) (rw c.get.ensures at c.put_two.ensures)
