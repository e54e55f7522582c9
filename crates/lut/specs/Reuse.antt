-- What is bootstrapped already.
use Rattle.std.specs.Prelude.{◌≡◌, Bool, false, ◌||◌, List, ◌∷◌, map, ℕ, zero, suc, ◌+◌, ◌≤◌, ◌<◌, length, drop}
use Rattle.std.proofs.Math.Path.{refl}
use Rattle.std.proofs.Common.{sym, subst, ap₂, ◌∙◌, add-one, arith, drop_of_length-le}
use Rattle.std.specs.List.{list_any, range_with_len}
use Rattle.laws.specs.Select.{any}
use Rattle.rules.specs.Network.{LutNode, Input, Linear, Bootstrap, boot_sources, node_at}
use Rattle.rules.specs.Store.{same_node, bootstrap_inputs, has_bootstrap}
use Rattle.theorems.specs.NodesAt.{drop-node}
use Rattle.nodes.specs.declared.store.Store.{Store}
use Rattle.nodes.specs.Store.{store_of, node_fine}
use Rattle.nodes.specs.View.{Fine}

-- a bootstrap of this node
unfoldable pub takes_node : LutNode → List LutNode → LutNode → Bool
takes_node n nodes (Input g) = false
takes_node n nodes (Linear c ts) = false
takes_node n nodes (Bootstrap j table) = same_node n (node_at nodes j)

-- one of the nodes from number i on is such a bootstrap
unfoldable pub taken_from : LutNode → List LutNode → ℕ → Bool
taken_from n nodes i = any (same_node n) (map (node_at nodes) (boot_sources (drop i nodes)))

-- ---- laws

-- what a bootstrap takes comes before it
pub boot_below : (s : Store) (i j : ℕ) (table : List ℕ) → i < length (store_of s) → Bootstrap j table ≡ node_at (store_of s) i → j < length (store_of s)
unfolding Fine
boot_below s i j table h e = let f : Fine i (Bootstrap j table) = subst (Fine i) (sym e) (node_fine s i h) in omega (arith, f.0)

taken_cons : (n : LutNode) (nodes : List LutNode) (m : LutNode) (ms : List LutNode)
    → any (same_node n) (map (node_at nodes) (boot_sources (m ∷ ms))) ≡ (takes_node n nodes m || any (same_node n) (map (node_at nodes) (boot_sources ms)))
unfolding takes_node boot_sources any
taken_cons n nodes (Input g) ms = refl
taken_cons n nodes (Linear c ts) ms = refl
taken_cons n nodes (Bootstrap j table) ms = refl

module _ (n : LutNode) (nodes : List LutNode) where
  taken_at : (i : ℕ) → i < length nodes → taken_from n nodes i ≡ (takes_node n nodes (node_at nodes i) || taken_from n nodes (i + 1))
  unfolding taken_from
  taken_at i h = rw (add-one, drop-node nodes i h) (taken_cons n nodes (node_at nodes i) (drop (suc i) nodes))

  taken_end : (i : ℕ) → length nodes ≤ i → taken_from n nodes i ≡ false
  unfolding taken_from boot_sources any
  taken_end i h = rw (drop_of_length-le nodes {i = i} h)

  -- the k nodes from number i on, one by one
  taken_each : (p : ℕ → Bool) → ((i : ℕ) → i < length nodes → p i ≡ takes_node n nodes (node_at nodes i)) → (k i : ℕ) → i + k ≡ length nodes → list_any p (range_with_len i k) ≡ taken_from n nodes i
  taken_each p same zero i e = sym (taken_end i (omega arith))
  taken_each p same (suc k) i e =
      let h : i < length nodes = omega arith in
      ap₂ {C = Bool} (λ b r. b || r) (same i h) (taken_each p same k (i + 1) (omega arith)) ∙ sym (taken_at i h)

  taken_start : taken_from n nodes 0 ≡ has_bootstrap nodes n
  unfolding taken_from has_bootstrap bootstrap_inputs
  taken_start = refl

-- what `any` gives over the nodes' numbers
pub taken_any : (n : LutNode) (nodes : List LutNode) → list_any (λ i. takes_node n nodes (node_at nodes i)) (range_with_len 0 (length nodes)) ≡ has_bootstrap nodes n
taken_any n nodes = taken_each n nodes (λ i. takes_node n nodes (node_at nodes i)) (λ i h. refl) (length nodes) 0 (omega arith) ∙ taken_start n nodes
