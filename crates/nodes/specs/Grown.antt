-- A store with one node more.
use Rattle.std.specs.Prelude.{◌≡◌, refl, List, [], ◌∷◌, ◌++◌, map, ℕ, ◌<◌, ◌≤◌, length, get_or}
use Rattle.std.proofs.Common.{◌∙◌, sym, ap, ap₂, arith, length-append, ⊎_elim}
use Rattle.std.proofs.lemmas.List.{length-map, map-append}
use Rattle.std.proofs.Math.ListN.{get_or-append}
use Rattle.std.proofs.Math.Seq.{get_or_at}
use Rattle.laws.specs.Test.{lt_or_le}
use Rattle.rules.specs.Network.{node_at, node_depth, node_centre, depth, depths}
use Rattle.theorems.specs.Depths.{depths_snoc}
use Rattle.theorems.specs.NodesAt.{node-before, node_next}
use Rattle.nodes.specs.declared.store.Store.{Store}
use Rattle.nodes.specs.declared.store.Stored as S
use Rattle.nodes.specs.Store.{store_of, centre_in, Adds}
use Rattle.nodes.specs.View.{nodes_of, depths_of, centres_of, lut_node, Fine, AllFine, fine_push}

module _ (s : Store) (x : S.Stored) (xs : List S.Stored) (e : xs ≡ s.nodes.items ++ (x ∷ [])) where
  nodes_grown : nodes_of xs ≡ store_of s ++ (lut_node x.node ∷ [])
  unfolding nodes_of store_of
  nodes_grown = ap (map (λ (y : S.Stored). lut_node y.node)) e ∙ map-append (λ (y : S.Stored). lut_node y.node) s.nodes.items (x ∷ [])

  -- what the store asks of its nodes
  pub few_grown : length (store_of s) < 672 → length xs ≤ 672
  unfolding nodes_of
  few_grown h = let l = ap length nodes_grown in let m = length-append (store_of s) (lut_node x.node ∷ []) in let q = length-map xs (λ (y : S.Stored). lut_node y.node) in omega arith

  pub fine_grown : Fine (length (store_of s)) (lut_node x.node) → AllFine (nodes_of xs)
  unfolding store_of
  fine_grown f = rw nodes_grown (fine_push (store_of s) (lut_node x.node) s.fine f)

  pub deep_grown : x.depth ≡ node_depth (depth (store_of s)) (lut_node x.node) → depths_of xs ≡ depths (nodes_of xs)
  unfolding depths_of store_of
  deep_grown d =
      ap (map (λ (y : S.Stored). y.depth)) e ∙ map-append (λ (y : S.Stored). y.depth) s.nodes.items (x ∷ [])
      ∙ ap₂ (λ l r. l ++ (r ∷ [])) s.deep d ∙ sym (depths_snoc (store_of s) (lut_node x.node)) ∙ ap depths (sym nodes_grown)

  -- what is told of the store that it makes
  module _ (new : Store) (f : new.nodes.items ≡ xs) where
    store_is : store_of new ≡ store_of s ++ (lut_node x.node ∷ [])
    unfolding store_of
    store_is = rw f nodes_grown

    centre_old : (i : ℕ) → i < length (store_of s) → centre_in new i ≡ centre_in s i
    unfolding centre_in centres_of store_of nodes_of
    centre_old i h =
        let l : i < length (map (λ (y : S.Stored). y.centre) s.nodes.items) = rw length-map (rw length-map at h) in
        ap (λ l. get_or (map (λ (y : S.Stored). y.centre) l) i 0) (f ∙ e)
        ∙ ap (λ l. get_or l i 0) (map-append (λ (y : S.Stored). y.centre) s.nodes.items (x ∷ []))
        ∙ get_or-append (map (λ (y : S.Stored). y.centre) s.nodes.items) (x.centre ∷ []) 0 i l

    centre_new : centre_in new (length (store_of s)) ≡ x.centre
    unfolding centre_in centres_of store_of nodes_of
    centre_new =
        ap (λ l. get_or (map (λ (y : S.Stored). y.centre) l) (length (nodes_of s.nodes.items)) 0) (f ∙ e)
        ∙ ap (λ l. get_or l (length (nodes_of s.nodes.items)) 0) (map-append (λ (y : S.Stored). y.centre) s.nodes.items (x ∷ []))
        ∙ get_or_at (map (λ (y : S.Stored). y.centre) s.nodes.items) x.centre [] 0 (length (nodes_of s.nodes.items)) (rw (length-map, length-map) refl)

    pub adds_grown : Adds x.centre (lut_node x.node) s new
    adds_grown =
        record {
          store = store_is;
          centred = λ p c z. record {
            at = λ i h.
                ⊎_elim
                (λ (m : i < length (store_of s)). centre_old i m ∙ z.at i m ∙ ap (node_centre p) (sym (ap (λ l. node_at l i) store_is ∙ node-before (store_of s) (lut_node x.node ∷ []) i m)))
                (λ (m : length (store_of s) ≤ i).
                let l = ap length store_is in
                let q = length-append (store_of s) (lut_node x.node ∷ []) in
                let g : length (store_of s) ≡ i = omega arith in
                ap (centre_in new) (sym g) ∙ centre_new ∙ c ∙ ap (node_centre p) (sym (ap (λ l. node_at l i) store_is ∙ node_next (store_of s) (lut_node x.node) [] i g)))
                (lt_or_le i (length (store_of s)));
          };
        }
