-- The largest norm of the nodes that are kept, from the last to the first.
use Rattle.std.specs.Prelude.{◌≡◌, Bool, true, false, List, ◌∷◌, ℕ, ◌+◌, ◌-◌, ◌≤◌, ◌<◌, max, length, get_or, drop, Some, None, is_some}
use Rattle.std.proofs.Common.{refl, sym, ap, ap₂, ◌∙◌, add-one, arith, drop_of_length-le}
use Rattle.laws.specs.Test.{if◌then◌otherwise◌}
use Rattle.rules.specs.Network.{LutNode, member, node_at, node_norm, largest}
use Rattle.rules.specs.Store.{needs, renumbered, renumbered_node, kept_from}
use Rattle.theorems.specs.Members.{among_of}
use Rattle.theorems.specs.NodesAt.{drop-node}
use Rattle.theorems.specs.Weights.{AllWithin}
use Rattle.mapped.specs.PrunedNodes.{same_norm}
use Rattle.nodes.specs.declared.store.Store.{Store}
use Rattle.nodes.specs.Store.{store_of, node_fine}
use Rattle.nodes.specs.View.{fine_needs}
use Rattle.writer.specs.Kept.{Closed, Numbered}
use Rattle.writer.specs.Live.{NewNumbers}

-- The largest norm of some nodes, each among all of them.
unfoldable pub largest_norm : List LutNode → ℕ
largest_norm nodes = largest (node_norm nodes) nodes

-- The larger one of node i's norm and the norm so far, if the node is kept.
unfoldable pub larger_kept : NewNumbers → ℕ → ℕ → ℕ → ℕ
larger_kept live i own norm = if is_some (get_or live i None) then max own norm otherwise norm

-- ---- laws: the nodes

pub larger_not : (live : NewNumbers) (i own norm : ℕ) → get_or live i None ≡ None → norm ≡ larger_kept live i own norm
unfolding larger_kept
larger_not live i own norm e = rw e refl

pub larger_own : (live : NewNumbers) (i own norm x n : ℕ) → get_or live i None ≡ Some n → x ≡ own → max x norm ≡ larger_kept live i own norm
unfolding larger_kept
larger_own live i own norm x n e q = rw e (ap (λ k. max k norm) q)

module _ (store : Store) (kept : List ℕ) where
  abbrev nodes : List LutNode
  nodes = store_of store

  abbrev all : List LutNode
  all = kept_from kept 0 nodes

  -- a kept node's norm is its norm among the kept ones
  norm-kept : Closed kept store → (i : ℕ) → i < length nodes → member i kept ≡ true → node_norm all (renumbered_node kept (node_at nodes i)) ≡ node_norm nodes (node_at nodes i)
  norm-kept c i h m =
      same_norm kept nodes (node_at nodes i) (among_of (needs (node_at nodes i)) kept (λ j k. c.needed i h m j k)) needs_within
    where
      -- what a node needs stands before it
      needs_within : AllWithin nodes (needs (node_at nodes i))
      needs_within j k = let l = fine_needs i (node_at nodes i) (node_fine store i h) j k in omega arith

  -- The largest norm of the nodes from i on that are kept.
  unfoldable pub largest_from : ℕ → ℕ
  largest_from i = largest (node_norm all) (kept_from kept i (drop i nodes))

  pub largest_none : (n : ℕ) → n ≡ length nodes → 0 ≡ largest_from n
  unfolding largest_from largest kept_from
  largest_none n e = rw (drop_of_length-le nodes {i = n} (omega arith)) refl

  largest_next : (i : ℕ) → i < length nodes
      → largest_from i ≡ (if member i kept then max (node_norm all (renumbered_node kept (node_at nodes i))) (largest_from (i + 1)) otherwise largest_from (i + 1))
  unfolding largest_from kept_from
  largest_next i h = ap (λ l. largest (node_norm all) (kept_from kept i l)) (drop-node nodes i h ∙ ap (λ j. node_at nodes i ∷ drop j nodes) (sym (add-one i))) ∙ by (member i kept)
    where
      by : (b : Bool) → largest (node_norm all) (if b then renumbered_node kept (node_at nodes i) ∷ kept_from kept (i + 1) (drop (i + 1) nodes) otherwise kept_from kept (i + 1) (drop (i + 1) nodes))
          ≡ (if b then max (node_norm all (renumbered_node kept (node_at nodes i))) (largest (node_norm all) (kept_from kept (i + 1) (drop (i + 1) nodes))) otherwise largest (node_norm all) (kept_from kept (i + 1) (drop (i + 1) nodes)))
      by true = unfold largest in refl
      by false = refl

  pub largest_step : (live : NewNumbers) (i r x : ℕ) → 0 < i → i ≤ length nodes → Closed kept store → Numbered kept live (length nodes) → r ≡ largest_from i
      → x ≡ larger_kept live (i - 1) (node_norm nodes (node_at nodes (i - 1))) r → x ≡ largest_from (i - 1)
  unfolding larger_kept
  largest_step live i r x p h c keeps e q =
      let t : i - 1 + 1 ≡ i = omega arith in
      q ∙ by (member (i - 1) kept) (keeps.at (i - 1) (omega arith)) (λ m. norm-kept c (i - 1) (omega arith) m)
      ∙ ap (λ j. if member (i - 1) kept then max (node_norm all (renumbered_node kept (node_at nodes (i - 1)))) (largest_from j) otherwise largest_from j) (sym t)
      ∙ sym (largest_next (i - 1) (omega arith))
    where
      own : ℕ
      own = node_norm nodes (node_at nodes (i - 1))

      by : (b : Bool) → get_or live (i - 1) None ≡ (if b then Some (renumbered kept (i - 1)) otherwise None)
          → (b ≡ true → node_norm all (renumbered_node kept (node_at nodes (i - 1))) ≡ own)
          → (if is_some (get_or live (i - 1) None) then max own r otherwise r)
          ≡ (if b then max (node_norm all (renumbered_node kept (node_at nodes (i - 1)))) (largest_from i) otherwise largest_from i)
      by true l n = rw l (ap₂ max (sym (n refl)) e)
      by false l n = rw l e

  pub largest_all : (i r : ℕ) → i ≤ 0 → r ≡ largest_from i → r ≡ largest_norm all
  unfolding largest_from largest_norm
  largest_all i r h e = let z : i ≡ 0 = omega arith in e ∙ ap (λ j. largest (node_norm all) (kept_from kept j (drop j nodes))) z
