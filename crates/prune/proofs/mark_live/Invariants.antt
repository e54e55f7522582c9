use Rattle.std.proofs.Common.{length}
use Rattle.nodes.specs.Store.{store_of}
use Rattle.prune.specs.Prune.{Reaching}
use Rattle.prune.proofs.mark_live.Given as goal

-- `prune::mark_live` meets its contract: the nodes below i are left.
abbrev pub invariant-loop-i : goal.invariant-loop-i
invariant-loop-i l = Reaching (store_of l.store) (length (store_of l.store)) l.i l.initial.marks l.marks
