use Rattle.std.proofs.Common.{sym, ap, ◌∙◌, arith}
use Rattle.laws.specs.Front.{filling_start, filling_step, filling-all}
use Rattle.rules.specs.Builder.{filled, known_or}
use Rattle.theorems.specs.Completions.{filled-length, filled_at}
use Rattle.rotation.specs.Entries.{numbers, numbers-length, number_at}
use Rattle.rotation.proofs.completions.fill.Goals as goal

pub loop-i-init : goal.loop-i-init
loop-i-init c = filling_start _ _

pub loop-i-preserved : goal.loop-i-preserved
loop-i-preserved c =
    let o = c.loop-i in
    let a = c.args in
    let known = numbers a.known.now in
    let n = filled-length a.missing known ∙ numbers-length a.known.now in
    filling_step (filled a.missing known) a.table.now o.table o.i _ 0 o.invariant
    (c.known_or.ensures ∙ ap (known_or a.missing) (sym (number_at a.known.now o.i _ (omega arith))) ∙ sym (filled_at a.missing known o.i)) (omega arith) (omega arith)

pub returns : goal.returns
returns c = filling-all _ _ _ c.loop-i.i c.loop-i.invariant (filled-length _ _ ∙ numbers-length _ ∙ c.requires) (omega arith)
