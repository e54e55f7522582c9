-- The node with a number, among nodes that have grown, and among the first of them.
use Rattle.std.specs.Prelude.{◌≡◌, List, [], ◌∷◌, ◌++◌, ℕ, suc, ◌<◌, ◌≤◌, length, take, drop}
use Rattle.std.proofs.Math.ListN.{get_or-append, get_or-eq_default}
use Rattle.std.proofs.Math.Seq.{get_or_at, get_or-take, drop-cons}
use Rattle.rules.specs.Network.{LutNode, Input, node_at}

-- What `node_at` gives where there is no node.
abbrev pub no_input : LutNode
no_input = Input (record { name = []; weight = 1 })

module _ (ns : List LutNode) where
  pub node-before : (more : List LutNode) (i : ℕ) → i < length ns → node_at (ns ++ more) i ≡ node_at ns i
  unfolding node_at
  node-before more i h = get_or-append ns more no_input i h

  pub node_next : (x : LutNode) (more : List LutNode) (i : ℕ) → length ns ≡ i → node_at (ns ++ (x ∷ more)) i ≡ x
  unfolding node_at
  node_next x more i e = get_or_at ns x more no_input i e

  pub node_none : (i : ℕ) → length ns ≤ i → node_at ns i ≡ no_input
  unfolding node_at
  node_none i h = get_or-eq_default ns no_input {n = i} h

  pub drop-node : (i : ℕ) → i < length ns → drop i ns ≡ node_at ns i ∷ drop (suc i) ns
  unfolding node_at
  drop-node i h = drop-cons ns i no_input h

pub taken-node : (k j : ℕ) (ns : List LutNode) → j < k → node_at (take k ns) j ≡ node_at ns j
unfolding node_at
taken-node k j ns h = get_or-take k ns j no_input h
