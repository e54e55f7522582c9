use Rattle.std.proofs.Common.{refl, arith}
use Rattle.restore_nodes.specs.Restored.{count_back, restoring_start, restoring_turn, restoring_refused, restoring_done}
use Rattle.restore_nodes.proofs.restore_nodes.Goals as goal

pub returns-then-count-most-clause-complete : goal.returns-then-count-most-clause-complete
returns-then-count-most-clause-complete c =
    λ nodes h g e. absurd (omega (arith, h, c.if-count-most.true, c.number-count.ensures.is, count_back c.args.bytes.now nodes (record { good = g; same = e })))

pub loop-i-init : goal.loop-i-init
loop-i-init c = restoring_start c.args.p c.args.bytes.now _ c.clear.ensures

pub returns-then-not-restore_node-clause-complete : goal.returns-then-not-restore_node-clause-complete
returns-then-not-restore_node-clause-complete c =
    λ nodes h g e. absurd (
    restoring_refused c.args.p c.args.bytes.now c.loop-i.i c.loop-i.store c.loop-i.invariant _ _ c.restore_node.ensures.complete _ c.number-count.ensures.is c.loop-i-test.true
    c.if-not-restore_node.true nodes (record { good = g; same = e })
    )

pub loop-i-preserved : goal.loop-i-preserved
loop-i-preserved c =
    restoring_turn c.args.p c.args.bytes.now c.loop-i.i c.loop-i.store c.loop-i.invariant _ _ c.restore_node.ensures.complete _ c.number-count.ensures.is c.loop-i-test.true
    (c.restore_node.ensures.sound c.if-not-restore_node.false)

pub returns-clause-complete : goal.returns-clause-complete
returns-clause-complete c =
    λ nodes h g e.
    (refl, restoring_done c.args.p c.args.bytes.now c.loop-i.i c.loop-i.store c.loop-i.invariant _ c.number-count.ensures.is c.loop-i-test.false nodes (record { good = g; same = e }))
