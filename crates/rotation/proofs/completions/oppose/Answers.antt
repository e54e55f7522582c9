use Rattle.std.proofs.Common.{sym, ◌∙◌, arith}
use Rattle.laws.specs.Front.{filling_start, filling_step, filling-all}
use Rattle.rules.specs.Builder.{opposed}
use Rattle.theorems.specs.Completions.{opposed-length, opposed-at}
use Rattle.rotation.specs.Entries.{numbers, numbers-length}
use Rattle.rotation.proofs.completions.oppose.Goals as goal

pub loop-i-init : goal.loop-i-init
loop-i-init c = filling_start _ _

pub loop-i-preserved : goal.loop-i-preserved
loop-i-preserved c =
    let o = c.loop-i in
    let a = c.args in
    let known = numbers a.known.now in
    let long = numbers-length a.known.now in
    let n = opposed-length a.size known in
    filling_step (opposed a.size known) a.table.now o.table o.i _ 0 o.invariant
    (c.opposed_at.ensures ∙ sym (opposed-at a.size known o.i (omega arith))) (omega arith) (omega arith)

pub returns : goal.returns
returns c = filling-all _ _ _ c.loop-i.i c.loop-i.invariant (opposed-length _ _ ∙ numbers-length _ ∙ c.requires) (omega arith)
