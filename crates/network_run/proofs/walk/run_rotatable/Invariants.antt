use Rattle.nodes.specs.Store.{store_of}
use Rattle.network_run.specs.Nodes.{Running}
use Rattle.network_run.proofs.walk.run_rotatable.Given as goal

abbrev pub invariant-loop-i : goal.invariant-loop-i
invariant-loop-i l = Running l.bits (store_of l.store) l.values.items l.i
