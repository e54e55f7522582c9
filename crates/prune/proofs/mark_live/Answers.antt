use Rattle.std.proofs.Common.{arith, length, ◌-◌}
use Rattle.nodes.specs.Store.{store_of, node_within}
use Rattle.prune.specs.Prune.{needed_not, needed_so, reaching_turn, reaching_done}
use Rattle.prune.proofs.mark_live.Goals as goal

pub mark_sources-requires : goal.mark_sources-requires
mark_sources-requires c = let e = c.node.ensures in rw e (node_within c.args.store.now (c.loop-i.i - 1) (omega arith))

pub loop-i-preserved-then-marks-i : goal.loop-i-preserved-then-marks-i
loop-i-preserved-then-marks-i c =
    let o = c.loop-i in
    let e = c.node.ensures in
    let nodes = store_of c.args.store.now in
    reaching_turn nodes (length nodes) o.i c.args.marks.now o.marks _ o.invariant c.loop-i-test.true (needed_so (o.i - 1) _ o.marks _ (omega arith) c.if-marks-i.true (rw e at c.mark_sources.ensures))

pub loop-i-preserved : goal.loop-i-preserved
loop-i-preserved c =
    let o = c.loop-i in
    let nodes = store_of c.args.store.now in
    reaching_turn nodes (length nodes) o.i c.args.marks.now o.marks _ o.invariant c.loop-i-test.true (needed_not (o.i - 1) _ o.marks (omega arith) c.if-marks-i.false)

pub returns : goal.returns
returns c =
    let nodes = store_of c.args.store.now in
    reaching_done nodes (length nodes) c.loop-i.i c.args.marks.now c.loop-i.marks c.loop-i.invariant (omega (arith, c.loop-i-test.false))
