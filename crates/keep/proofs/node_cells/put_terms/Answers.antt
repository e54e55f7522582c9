use Rattle.std.proofs.Common.{ap, sym}
use Rattle.nodes.specs.Seen.{term_small, term_below}
use Rattle.nodes.specs.View.{term_of, terms_seen}
use Rattle.lines.specs.Put.{put_text, room_text}
use Rattle.retuning.specs.Kept.{term_bytes}
use Rattle.cells.specs.Pieces.{flat_seen, pieces_start, piece_room, piece_turn, pieces_done}
use Rattle.keep.proofs.node_cells.put_terms.Goals as goal

pub loop-term-init : goal.loop-term-init
unfolding terms_seen
loop-term-init c = pieces_start (λ t. term_bytes (term_of t)) _ _ (flat_seen term_bytes term_of c.args.terms.now)

pub put_term-requires : goal.put_term-requires
put_term-requires c =
    let l = c.loop-term in
    let d = c.term-item.result in
    record {
      small =
          rw c.term-item.is (
            term_small c.args.terms.now l.term-index d c.loop-term-test.true 672 c.requires.fine,
            term_below c.args.terms.now l.term-index d c.loop-term-test.true 672 c.requires.fine,
          );
      room =
          room_text (ap (λ t. term_bytes (term_of t)) (sym c.term-item.is))
          (piece_room (λ t. term_bytes (term_of t)) c.args.terms.now l.term-index l.invariant d c.loop-term-test.true c.requires.room);
    }

pub loop-term-preserved : goal.loop-term-preserved
loop-term-preserved c =
    let l = c.loop-term in
    piece_turn (λ t. term_bytes (term_of t)) c.args.terms.now l.term-index l.invariant c.term-item.result c.loop-term-test.true
    (put_text (ap (λ t. term_bytes (term_of t)) (sym c.term-item.is)) c.put_term.ensures)

pub returns : goal.returns
returns c = pieces_done (λ t. term_bytes (term_of t)) c.args.terms.now c.loop-term.term-index c.loop-term.invariant c.loop-term-test.false
