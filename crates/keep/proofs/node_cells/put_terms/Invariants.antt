use mathlib.Core.List.{flat_map}
use Rattle.nodes.specs.View.{term_of, terms_seen}
use Rattle.retuning.specs.Kept.{term_bytes}
use Rattle.lines.specs.Put.{Left}
use Rattle.cells.specs.Pieces.{pieces_left}
use Rattle.keep.proofs.node_cells.put_terms.Given as goal

abbrev pub invariant-loop-term : goal.invariant-loop-term
invariant-loop-term l = Left (flat_map term_bytes (terms_seen l.terms)) l.initial.cursor (pieces_left (λ t. term_bytes (term_of t)) l.terms l.term-index) l.cursor
