use Rattle.restore_nodes.specs.Restored.{Restoring}
use Rattle.restore_nodes.proofs.restore_nodes.Given as goal

abbrev pub invariant-loop-i : goal.invariant-loop-i
invariant-loop-i l = Restoring l.p l.bytes l.i l.store
