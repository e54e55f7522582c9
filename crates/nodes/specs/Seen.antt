-- What the code reads of a store and of a sum's terms, by place.
use Rattle.std.specs.Prelude.{◌≡◌, List, [], ◌∷◌, ◌++◌, map, ℕ, ◌+◌, ◌<◌, ◌≤◌, nat_abs, length, get_or, take}
use Rattle.std.proofs.Common.{◌∙◌, sym, arith, take-suc, add-one, refl}
use Rattle.std.proofs.lemmas.List.{length-map, get_or-map, map-append}
use Rattle.rules.specs.Network.{node_at, depth, weight_of}
use Rattle.theorems.specs.NodesAt.{no_input}
use Rattle.theorems.specs.Weights.{GoodWeight}
use Rattle.nodes.specs.declared.node.Term as T
use Rattle.nodes.specs.declared.store.Store.{Store}
use Rattle.nodes.specs.declared.store.Stored as S
use Rattle.nodes.specs.Store.{store_of, depth_in, centre_in, store_few, node_fine, recorded_depth}
use Rattle.nodes.specs.View.{term, term_of, terms_seen, lut_node, nodes_of, depths_of, centres_of, FineTerms, fine_at, weight_good}

-- ---- a store's node

module _ (s : Store) (i : ℕ) (h : i < length (store_of s)) where
  pub place_small : i < 672
  place_small = omega (arith, store_few s)

  module _ (xs : List S.Stored) (e : xs ≡ s.nodes.items) where
    pub inside : i < length xs
    unfolding store_of nodes_of
    inside = rw e (rw length-map at h)

  module _ (d : S.Stored) where
    pub node_seen : lut_node (get_or s.nodes.items i d).node ≡ node_at (store_of s) i
    unfolding store_of nodes_of node_at
    node_seen = sym (get_or-map (λ (x : S.Stored). lut_node x.node) s.nodes.items i d no_input (inside s.nodes.items refl))

    pub depth_seen : (get_or s.nodes.items i d).depth ≡ depth (store_of s) i
    unfolding depth_in depths_of
    depth_seen = sym (get_or-map (λ (x : S.Stored). x.depth) s.nodes.items i d 0 (inside s.nodes.items refl)) ∙ recorded_depth s i

    pub centre_seen : (get_or s.nodes.items i d).centre ≡ centre_in s i
    unfolding centre_in centres_of
    centre_seen = sym (get_or-map (λ (x : S.Stored). x.centre) s.nodes.items i d 0 (inside s.nodes.items refl))

  pub weight_small : weight_of (node_at (store_of s) i) ≤ 64
  unfolding GoodWeight
  weight_small = (weight_good i (node_at (store_of s) i) (node_fine s i h)).1

pub ruleset reads = (place_small, inside, node_seen, depth_seen, centre_seen, weight_small)

-- ---- a sum's terms

module _ (ts : List T.Term) (k : ℕ) (d : T.Term) (h : k < length ts) where
  term_fine : (count : ℕ) → FineTerms count (terms_seen ts) → (nat_abs (get_or ts k d).coef ≤ 31) × ((get_or ts k d).node < count)
  unfolding terms_seen term
  term_fine count f =
      let l : k < length (map term_of ts) = rw length-map h in
      let e = get_or-map term_of ts k d (term_of d) h in
      rw e at (fine_at count (map term_of ts) k (term_of d) f l)

  pub term_below : (count : ℕ) → FineTerms count (terms_seen ts) → (get_or ts k d).node < count
  term_below count f = (term_fine count f).1

  pub term_small : (count : ℕ) → FineTerms count (terms_seen ts) → nat_abs (get_or ts k d).coef ≤ 31
  term_small count f = (term_fine count f).0

  pub terms_next : terms_seen (take (k + 1) ts) ≡ terms_seen (take k ts) ++ (term_of (get_or ts k d) ∷ [])
  unfolding terms_seen
  terms_next = rw (add-one, take-suc ts k d h) (map-append term_of (take k ts) (get_or ts k d ∷ []))
