use Rattle.std.proofs.Common.{◌≡◌, ◌≤◌, length}
use Rattle.rules.specs.Network.{depth}
use Rattle.nodes.specs.Depth.{deepest_to}
use Rattle.nodes.specs.Store.{store_of}
use Rattle.nodes.proofs.store.Store.deepest.Given as goal

abbrev pub invariant-loop-term : goal.invariant-loop-term
invariant-loop-term l = (l.deepest ≡ deepest_to (depth (store_of l.self)) l.terms l.term-index) × (l.deepest ≤ length (store_of l.self))
