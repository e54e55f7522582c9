use Rattle.nodes.specs.Terms.{made_more, good_written}
use Rattle.nodes.proofs.node.terms_of.Goals as goal

pub loop-term-preserved : goal.loop-term-preserved
loop-term-preserved c =
    let o = c.loop-term in
    let e = c.deref-term-items.ensures.0 in
    let h = rw e at c.loop-term-test.true in
    rw (c.push.ensures, e) (made_more c.args.t.now _ _ _ _ h o.invariant (good_written 672 c.args.t.now c.requires o.term-index _ h) (rw e at c.new.ensures))
