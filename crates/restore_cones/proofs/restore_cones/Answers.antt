use Rattle.std.proofs.Common.{arith, ◌<◌}
use Rattle.restore_cones.proofs.Cells.{Keeps, cell_kept, restored_more}
use Rattle.restore_cones.proofs.restore_cones.Goals as goal

pub returns-in_default-clause-complete : goal.returns-in_default-clause-complete
returns-in_default-clause-complete c cones many good are =
    let h : c.loop-i.i < c.args.count = omega arith in
    let k : Keeps c.args.count c.args.nodes c.args.bytes.now cones = record { many = many; good = good; are = are } in
    absurd (c.in_default.ensures.complete _ (good c.loop-i.i h) (cell_kept k _ c.loop-i.i (omega arith) h))

pub loop-i-preserved : goal.loop-i-preserved
loop-i-preserved c = restored_more _ _ c.in-Some.cone c.loop-i.invariant c.push.ensures.items (omega arith) c.in-Some.ensures.sound _ (omega arith) c.in-Some.ensures.complete
