use Rattle.std.proofs.Common.{length}
use Rattle.many_text.proofs.Walk.{Counted}
use Rattle.many_text.proofs.tables.Tables.read.Given as goal

abbrev pub invariant-loop-after : goal.invariant-loop-after
invariant-loop-after l = Counted l.s l.left l.rest

abbrev pub decreases-loop-after : goal.decreases-loop-after
decreases-loop-after l = length l.rest
