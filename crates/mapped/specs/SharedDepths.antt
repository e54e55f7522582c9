-- Building and sharing keep depths: nodes that grow keep those they have, and an interned node has the depth that its sources give.
use Rattle.std.specs.Prelude.{◌≡◌, List, [], ◌∷◌, ◌++◌, ◌⊎◌, ℕ, ◌≤◌, ◌<◌, length}
use Rattle.std.proofs.Common.{sym, ap, ◌∙◌, inl, inr, ⊎_elim, arith, length-append}
use Rattle.laws.specs.Test.{lt_or_le}
use Rattle.rules.specs.Network.{LutNode, node_at, node_depth, depth}
use Rattle.rules.specs.Store.{number_of, intern}
use Rattle.theorems.specs.Depths.{depth_is, depth-stays, depth-new}
use Rattle.theorems.specs.EarlierNodes.{Ordered}
use Rattle.theorems.specs.Interned.{interned}
use Rattle.theorems.specs.NodesAt.{node-before}

module _ (nodes : List LutNode) (o : Ordered nodes) (x : LutNode) where
  found : (k : ℕ) → k < length nodes → node_at nodes k ≡ x → depth nodes k ≡ node_depth (depth nodes) x
  found k l e = depth_is nodes o k l ∙ ap (node_depth (depth nodes)) e

  -- among those before it, or at the end
  appended : (k : ℕ) → k < length (nodes ++ (x ∷ [])) → node_at (nodes ++ (x ∷ [])) k ≡ x → depth (nodes ++ (x ∷ [])) k ≡ node_depth (depth nodes) x
  appended k l e =
      ⊎_elim (λ (m : k < length nodes). depth-stays nodes (x ∷ []) k m ∙ found k m (sym (node-before nodes (x ∷ []) k m) ∙ e))
      (λ (m : length nodes ≤ k).
      let f : k ≡ length nodes = omega (arith, length-append nodes (x ∷ [])) in
      ap (depth (nodes ++ (x ∷ []))) f ∙ depth-new nodes x)
      (lt_or_le k (length nodes))

  pub sharing_keeps_depth : depth (intern x nodes) (number_of x (intern x nodes)) ≡ node_depth (depth nodes) x
  sharing_keeps_depth = by (interned x nodes).is (interned x nodes).inside (interned x nodes).at
    where
      by : (intern x nodes ≡ nodes) ⊎ (intern x nodes ≡ nodes ++ (x ∷ [])) → number_of x (intern x nodes) < length (intern x nodes)
          → node_at (intern x nodes) (number_of x (intern x nodes)) ≡ x → depth (intern x nodes) (number_of x (intern x nodes)) ≡ node_depth (depth nodes) x
      by (inl e) l f = rw e (found (number_of x nodes) (rw e at l) (rw e at f))
      by (inr e) l f = rw e (appended (number_of x (nodes ++ (x ∷ []))) (rw e at l) (rw e at f))
