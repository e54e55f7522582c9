use Rattle.admission.specs.Count.{Counted}
use Rattle.admission.proofs.count.stats_of.Given as goal

abbrev pub invariant-loop-i : goal.invariant-loop-i
invariant-loop-i l = Counted l.store l.outputs l.counting.taken l.counting.stats l.i
