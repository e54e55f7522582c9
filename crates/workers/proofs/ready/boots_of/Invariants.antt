use Rattle.std.proofs.Common.{◌≡◌}
use Rattle.nodes.specs.Store.{store_of}
use Rattle.workers.specs.Boots.{boots_to}
use Rattle.workers.proofs.ready.boots_of.Given as goal

abbrev pub invariant-loop-i : goal.invariant-loop-i
invariant-loop-i l = l.boots.items ≡ boots_to (store_of l.store) l.i
