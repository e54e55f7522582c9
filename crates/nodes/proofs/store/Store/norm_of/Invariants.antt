use Rattle.std.proofs.Common.{◌≡◌, ◌≤◌, ◌*◌}
use Rattle.nodes.specs.Norm.{norm_to}
use Rattle.nodes.specs.Store.{store_of}
use Rattle.nodes.proofs.store.Store.norm_of.Given as goal

abbrev pub invariant-loop-term : goal.invariant-loop-term
invariant-loop-term l = (l.sum ≡ norm_to (store_of l.self) l.terms l.term-index) × (l.sum ≤ 61504 * l.term-index)
