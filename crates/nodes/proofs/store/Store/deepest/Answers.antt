use Rattle.std.proofs.Common.{rules}
use Rattle.nodes.specs.Depth.{deepest_step}
use Rattle.nodes.proofs.store.Store.deepest.Goals as goal

pub loop-term-preserved : goal.loop-term-preserved
loop-term-preserved c =
    deepest_step _ _ _ _ _ _ _ c.requires c.loop-term-test.true c.loop-term.invariant.0 c.loop-term.invariant.1 (rw (c.get.ensures, c.term-item.is) at c.depth.ensures) (search rules)
