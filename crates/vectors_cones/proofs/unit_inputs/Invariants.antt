use Rattle.std.proofs.Common.{◌≡◌, length}
use Rattle.nodes.specs.Store.{store_of}
use Rattle.vectors_cones.proofs.unit_inputs.Given as goal

abbrev pub invariant-loop : goal.invariant-loop
invariant-loop l = length (store_of l.store) ≡ l.counter
