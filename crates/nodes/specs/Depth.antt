-- Depths: a node is no deeper than its number, and what a node's sources give is found from its first term to its last.
use Rattle.std.specs.Prelude.{◌≡◌, refl, true, List, [], ◌∷◌, ℕ, zero, suc, ◌+◌, ◌<◌, ◌≤◌, max, length, get_or, take}
use Rattle.std.proofs.Common.{◌∙◌, sym, ap, ap₂, arith, take_all}
use Rattle.rules.specs.Network.{Term, LutNode, Input, Linear, Bootstrap, member, largest, depth, node_at, node_depth}
use Rattle.rules.specs.NetworkText.{sources}
use Rattle.rules.specs.Store.{needs}
use Rattle.theorems.specs.Depths.{largest_more, depth_is}
use Rattle.theorems.specs.Members.{member_head, member-tail}
use Rattle.nodes.specs.declared.node.Term as T
use Rattle.nodes.specs.declared.store.Store.{Store}
use Rattle.nodes.specs.Seen.{term_below, terms_next}
use Rattle.nodes.specs.Store.{store_of, store_ordered, node_fine}
use Rattle.nodes.specs.View.{term, term_of, terms_seen, Fine, FineTerms, fine_needs}

-- ---- no deeper than its number

most_of : (f : ℕ → ℕ) (ts : List Term) (i : ℕ) → ((j : ℕ) → member j (sources ts) ≡ true → f j ≤ i) → largest (λ (t : Term). f t.node) ts ≤ i
unfolding largest sources
most_of f [] i h = omega arith
most_of f (t ∷ ts) i h =
    let a = h t.node (member_head t.node (sources ts)) in
    let b = most_of f ts i (λ j m. h j (member-tail j t.node (sources ts) m)) in
    omega arith

small-depth : (f : ℕ → ℕ) (i : ℕ) (n : LutNode) → Fine i n → ((j : ℕ) → member j (needs n) ≡ true → f j ≤ j) → node_depth f n ≤ i
unfolding node_depth needs
small-depth f i (Input g) x h = omega arith
small-depth f i (Linear c ts) x h = most_of f ts i (λ j m. let a = h j m in let b = fine_needs i (Linear c ts) x j m in omega arith)
small-depth f i (Bootstrap j table) x h =
    let a = h j (member_head j []) in
    let b = fine_needs i (Bootstrap j table) x j (member_head j []) in
    omega arith

module _ (s : Store) where
  small_below : (m i : ℕ) → i < m → i < length (store_of s) → depth (store_of s) i ≤ i
  small_below zero i l h = absurd (omega arith)
  small_below (suc m) i l h =
      let f = node_fine s i h in
      let d = depth_is (store_of s) (store_ordered s) i h in
      let r = small-depth (depth (store_of s)) i (node_at (store_of s) i) f (λ j k. let e = fine_needs i (node_at (store_of s) i) f j k in small_below m j (omega arith) (omega arith)) in
      omega arith

  pub depth_small : (i : ℕ) → i < length (store_of s) → depth (store_of s) i ≤ i
  depth_small i h = small_below (suc i) i (omega arith) h

  -- one that may be put behind these
  pub next_small : (n : LutNode) → Fine (length (store_of s)) n → node_depth (depth (store_of s)) n ≤ length (store_of s)
  next_small n f = small-depth (depth (store_of s)) (length (store_of s)) n f (λ j k. depth_small j (fine_needs (length (store_of s)) n f j k))

-- ---- from its first term to its last

max_turned : (a b : ℕ) → max a b ≡ max b a
max_turned a b = omega arith

module _ (f : ℕ → ℕ) (ts : List T.Term) where
  -- the largest so far
  unfoldable pub deepest_to : ℕ → ℕ
  deepest_to k = largest (λ (t : Term). f t.node) (terms_seen (take k ts))

  pub deepest_none : 0 ≡ deepest_to 0
  unfolding deepest_to largest terms_seen
  deepest_none = refl

  pub deepest_done : (k : ℕ) → length ts ≤ k → deepest_to k ≡ largest (λ (t : Term). f t.node) (terms_seen ts)
  unfolding deepest_to
  deepest_done k h = ap (λ l. largest (λ (t : Term). f t.node) (terms_seen l)) (take_all k ts h)

  deepest_more : (k d x : ℕ) (t : T.Term) → k < length ts → d ≡ deepest_to k → x ≡ f (get_or ts k t).node → max x d ≡ deepest_to (k + 1)
  unfolding deepest_to term
  deepest_more k d x t h e q =
      let g : Term → ℕ = λ u. f u.node in
      ap₂ max q e ∙ max_turned (g (term_of (get_or ts k t))) (largest g (terms_seen (take k ts)))
      ∙ sym (largest_more g (terms_seen (take k ts)) (term_of (get_or ts k t)))
      ∙ sym (ap (largest g) (terms_next ts k t h))

-- a turn, over a store's nodes
pub deepest_step : (s : Store) (ts : List T.Term) (k d x r : ℕ) (t : T.Term) → FineTerms (length (store_of s)) (terms_seen ts) → k < length ts
    → d ≡ deepest_to (depth (store_of s)) ts k → d ≤ length (store_of s) → x ≡ depth (store_of s) (get_or ts k t).node → r ≡ max x d
    → (r ≡ deepest_to (depth (store_of s)) ts (k + 1)) × (r ≤ length (store_of s))
deepest_step s ts k d x r t f h e l q m =
    let b = depth_small s (get_or ts k t).node (term_below ts k t h (length (store_of s)) f) in
    let c = term_below ts k t h (length (store_of s)) f in
    (m ∙ deepest_more (depth (store_of s)) ts k d x t h e q, omega arith)

pub ruleset deepening = (deepest_none, deepest_done, deepest_step, term_below)
