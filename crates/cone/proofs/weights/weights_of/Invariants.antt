use Rattle.std.proofs.Common.{◌≡◌, length, take}
use Rattle.theorems.specs.Weights.{weights_of}
use Rattle.nodes.specs.Store.{store_of}
use Rattle.cone.proofs.weights.weights_of.Given as goal

-- `cone::weights::weights_of` meets its contract: the sources passed have their weights.
abbrev pub invariant-loop-k : goal.invariant-loop-k
invariant-loop-k l = (length l.weights ≡ 11) × (take l.k l.weights ≡ take l.k (weights_of (store_of l.store) l.sources))
