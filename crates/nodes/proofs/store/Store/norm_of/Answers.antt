use Rattle.nodes.specs.Norm.{norm_step}
use Rattle.nodes.proofs.store.Store.norm_of.Goals as goal

pub loop-term-preserved : goal.loop-term-preserved
loop-term-preserved c =
    norm_step _ _ _ _ _ _ _ c.requires.0 c.loop-term-test.true c.loop-term.invariant.0 c.loop-term.invariant.1 (rw (c.get.ensures, c.term-item.is) at c.source_norm-sum.ensures.0) c.source_norm-sum.ensures.1
