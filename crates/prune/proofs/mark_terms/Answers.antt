use Rattle.nodes.specs.Seen.{term_below}
use Rattle.prune.specs.Prune.{marked_none, marked_more}
use Rattle.prune.proofs.mark_terms.Goals as goal

pub loop-term-init : goal.loop-term-init
loop-term-init c = marked_none c.args.terms.now c.args.marks.now c.told-marks

pub loop-term-preserved : goal.loop-term-preserved
loop-term-preserved c =
    let o = c.loop-term in
    let h = c.loop-term-test.true in
    rw (c.get.ensures, c.term-item.is) (marked_more c.args.terms.now o.term-index _ c.args.marks.now o.marks h o.invariant (term_below c.args.terms.now o.term-index _ h 672 c.requires))
