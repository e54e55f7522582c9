-- A store, seen as the definition's nodes.
use Rattle.std.specs.Prelude.{◌≡◌, List, [], ◌∷◌, ◌++◌, ℕ, ◌<◌, ◌≤◌, length, get_or}
use Rattle.std.proofs.Common.{ap, arith}
use Rattle.std.proofs.lemmas.List.{length-map}
use Rattle.rules.specs.Network.{LutNode, node_at, node_centre, depth}
use Rattle.theorems.specs.EarlierNodes.{Ordered}
use Rattle.nodes.specs.declared.store.Store.{Store}
use Rattle.nodes.specs.View.{nodes_of, depths_of, centres_of, AllFine, Fine, fine_later, fine_ordered}

unfoldable pub store_of : Store → List LutNode
store_of s = nodes_of s.nodes.items

-- the depth that stands beside node i
unfoldable pub depth_in : Store → ℕ → ℕ
depth_in s i = get_or (depths_of s.nodes.items) i 0

-- the centre that stands beside node i
unfoldable pub centre_in : Store → ℕ → ℕ
centre_in s i = get_or (centres_of s.nodes.items) i 0

-- With this P, each node has its table's centre beside it.
pub record Centred (p : ℕ) (s : Store) : Type 0 where
  pub at : (i : ℕ) → i < length (store_of s) → centre_in s i ≡ node_centre p (node_at (store_of s) i)

-- With a P that gives the node's table the centre c, all that had theirs have them after it.
abbrev pub KeepsCentred : ℕ → LutNode → Store → Store → Type 0
KeepsCentred c n old new = (p : ℕ) → c ≡ node_centre p n → Centred p old → Centred p new

-- One node more, with the centre c.
pub record Adds (c : ℕ) (n : LutNode) (old new : Store) : Type 0 where
  pub store : store_of new ≡ store_of old ++ (n ∷ [])
  pub centred : KeepsCentred c n old new

-- ---- laws: what every store is

module _ (s : Store) where
  pub store_few : length (store_of s) ≤ 672
  unfolding store_of nodes_of
  store_few = rw length-map s.few

  pub store_fine : AllFine (store_of s)
  unfolding store_of
  store_fine = s.fine

  pub node_fine : (i : ℕ) → i < length (store_of s) → Fine i (node_at (store_of s) i)
  unfolding AllFine
  node_fine = store_fine

  -- its numbers are within a store's
  pub node_within : (i : ℕ) → i < length (store_of s) → Fine 672 (node_at (store_of s) i)
  node_within i h = fine_later i 672 (node_at (store_of s) i) (omega (arith, store_few)) (node_fine i h)

  -- the depth that stands beside a node is the definition's
  pub recorded_depth : (i : ℕ) → depth_in s i ≡ depth (store_of s) i
  unfolding depth_in depth store_of
  recorded_depth i = ap (λ l. get_or l i 0) s.deep

  pub store_ordered : Ordered (store_of s)
  store_ordered = fine_ordered (store_of s) store_fine
