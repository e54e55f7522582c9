use Rattle.std.proofs.Common.{arith, refl, length-set, length-take-le}
use Rattle.prune.specs.Prune.{mark_taken, numbering_start, numbering_kept, numbering_passed}
use Rattle.prune.proofs.renumber.Goals as goal
use Rattle.prune.proofs.renumber.Goals.{then-mark, else-mark}

pub loop-i-init : goal.loop-i-init
loop-i-init c = (omega arith, refl, λ kept m. numbering_start kept)

pub loop-i-preserved : goal.loop-i-preserved
loop-i-preserved c =
    let o = c.loop-i in
    let a = c.args in
    let l = length-take-le a.count a.marks.now (omega arith) in
    elim c.if-mark.branch [
      | then-mark w ↦ rw (w.next-is, w.numbers-is) (
        omega (arith, o.invariant.0),
        simp length-set o.invariant.1,
        λ kept m. numbering_kept kept o.numbers o.i o.next (o.invariant.2 kept m) _ refl (omega arith) (mark_taken a.count kept a.marks.now o.i m (omega arith) (omega arith) w.if-mark.true),
      )
      | else-mark w ↦ rw (w.next-is, w.numbers-is) (
        omega (arith, o.invariant.0),
        o.invariant.1,
        λ kept m. numbering_passed kept o.numbers o.i o.next (o.invariant.2 kept m) (omega arith) (mark_taken a.count kept a.marks.now o.i m (omega arith) (omega arith) w.if-mark.false),
      )
    ]
