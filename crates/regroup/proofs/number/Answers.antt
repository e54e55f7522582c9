use Rattle.std.proofs.Common.{arith, refl, rules, ◌∙◌}
use Rattle.regroup.specs.Numbers.{numbering_none, numbering_more}
use Rattle.regroup.proofs.number.Goals as goal

pub loop-i-init : goal.loop-i-init
loop-i-init c = (search rules, numbering_none _ _ _ (search rules) refl)

pub loop-i-preserved : goal.loop-i-preserved
loop-i-preserved c =
    let d = c.in-Some.ensures.steps in
    let n = c.loop-i.invariant in
    (d.0 ∙ n.0, numbering_more _ c.in-Some.field-0-1.now n.1 d.1.0 c.requires.1 c.in-Some.i (omega (arith, d.1.1, n.0)))
