use Rattle.std.proofs.Common.{◌≡◌, ◌≤◌, ◌∙◌, ap, get_or, nat_abs, to_z, of_z, w8, w64}
use Rattle.nodes.specs.declared.node.Term.{Term}
use Rattle.nodes.specs.Norm.{coef_read}
use Rattle.lines.specs.Put.{left-all}
use Rattle.writer.specs.Live.{terms_left, term_asked, term_room, term_turn, terms_done, new_number}
use Rattle.writer.proofs.node_lines.put_terms.Goals as goal
use Rattle.writer.proofs.node_lines.put_terms.Goals.{After-number_of}

pub loop-term-init : goal.loop-term-init
unfolding terms_left
loop-term-init c = left-all _ _

pub number_of-requires : goal.number_of-requires
number_of-requires c = rw (c.get.ensures, c.term-item.is) (term_asked c.args.live.now c.args.terms.now c.loop-term.term-index _ c.loop-term-test.true c.requires.ready).1

module _ (c : After-number_of) where
  abbrev term : Term
  term = get_or c.args.terms.now c.loop-term.term-index c.term-item.result

  near : nat_abs c.term-item.result.coef ≤ 31
  near = rw c.term-item.is (term_asked c.args.live.now c.args.terms.now c.loop-term.term-index _ c.loop-term-test.true c.requires.ready).0

  -- what the machine reads
  coef_word : to_z w64 (of_z w64 (to_z w8 (of_z w8 c.term-item.result.coef))) ≡ term.coef
  coef_word = coef_read _ near ∙ ap (λ (t : Term). t.coef) c.term-item.is

  number : c.number_of.result ≡ new_number c.args.live.now term.node
  number = c.number_of.ensures ∙ ap (new_number c.args.live.now) (c.get.ensures ∙ ap (λ (t : Term). t.node) c.term-item.is)

pub put_term-requires : goal.put_term-requires
put_term-requires c =
    let n = (goal.at.put_term-requires c).After-number_of in
    record {
      c_bound = rw (coef_read _ (near n)) (near n);
      room = term_room c.args.live.now c.args.terms.now c.loop-term.term-index _ c.loop-term-test.true c.loop-term.invariant (coef_word n) (number n) c.requires.room;
    }

pub loop-term-preserved : goal.loop-term-preserved
loop-term-preserved c =
    let n = (goal.at.loop-term-preserved c).After-number_of in
    term_turn c.args.live.now c.args.terms.now c.loop-term.term-index _ c.loop-term-test.true c.loop-term.invariant (coef_word n) (number n) c.put_term.ensures

pub returns : goal.returns
returns c = terms_done c.args.live.now c.args.terms.now c.loop-term.term-index c.loop-term-test.false c.loop-term.invariant
