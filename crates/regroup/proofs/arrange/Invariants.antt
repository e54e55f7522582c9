use Rattle.std.proofs.Common.{◌≡◌}
use Rattle.rules.specs.Regroup.{order_up_to}
use Rattle.nodes.specs.Store.{store_of}
use Rattle.regroup.proofs.arrange.Given as goal

abbrev pub invariant-loop-k : goal.invariant-loop-k
invariant-loop-k l = l.order.items ≡ order_up_to (store_of l.store) l.k
