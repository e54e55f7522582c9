use Rattle.std.specs.Prelude.{List, ℕ, [], ◌∷◌}
use Rattle.std.proofs.Common.{sym, ap, ap₂, ◌∙◌, to_z-of_z}
use Rattle.std.proofs.lemmas.List.{length-map}
use Rattle.nodes.specs.View.{term_of, terms_seen}
use Rattle.lines.specs.Put.{put_both, put_text}
use Rattle.retuning.specs.Kept.{signed_byte, node_bytes}
use Rattle.keep.proofs.node_cells.put_sum.Goals as goal

pub returns : goal.returns
unfolding node_bytes terms_seen
returns c =
    let e = c.signed_byte.ensures ∙ ap signed_byte (to_z-of_z c.ranges.constant) in
    put_both (put_text (ap₂ {C = List ℕ} (λ a b. 1 ∷ a ∷ b ∷ []) (sym e) (length-map c.args.terms.now term_of)) c.put_all.ensures) c.put_terms.ensures
