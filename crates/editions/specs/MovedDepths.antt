-- The nodes in a new order: each has the depth that it had (document 02, S-7 and S-11).
use Rattle.std.specs.Prelude.{◌≡◌, true, ℕ, max, length}
use Rattle.std.proofs.Math.Path.{refl, sym, ap, subst}
use Rattle.std.proofs.Common.{◌∙◌}
use mathlib.Core.List.{List, [], ◌∷◌, ◌++◌, map, append_assoc, append-nil, map-append}
use Rattle.std.proofs.Math.ListN.{get_or}
use Rattle.laws.specs.Lists.{map_at}
use Rattle.rules.specs.Network.{Term, LutNode, Input, Linear, Bootstrap, member, node_at, largest, node_depth, depths_from, depths, depth}
use Rattle.rules.specs.Regroup.{place_in, moved_term, moved_node}
use Rattle.theorems.specs.Depths.{same_depth, depth_is}
use Rattle.theorems.specs.EarlierNodes.{Ordered as Earlier}
use Rattle.editions.specs.Places.{place_within, place_at, place_front}
use Rattle.editions.specs.NewOrder.{Ordered, Sorted}

-- a node with new numbers, by the depths that these give
module _ (f : ℕ → ℕ) (to : ℕ → ℕ) where
  deepest_moved : (ts : List Term) → largest (λ (t : Term). f t.node) (map (moved_term to) ts) ≡ largest (λ (t : Term). f (to t.node)) ts
  unfolding largest moved_term
  deepest_moved [] = refl
  deepest_moved (t ∷ ts) = ap (max (f (to t.node))) (deepest_moved ts)

  depth_moved : (x : LutNode) → node_depth f (moved_node to x) ≡ node_depth (λ j. f (to j)) x
  unfolding node_depth moved_node
  depth_moved (Input a) = refl
  depth_moved (Linear c ts) = deepest_moved ts
  depth_moved (Bootstrap i table) = refl

module _ (ns : List LutNode) (earlier : Earlier ns) (o : List ℕ) where
  abbrev new : ℕ → LutNode
  new j = moved_node (place_in o) (node_at ns j)

  depth-at : (done rest : List ℕ) → done ++ rest ≡ o → (j : ℕ) → member j done ≡ true → get_or (map (depth ns) done) (place_in o j) 0 ≡ depth ns j
  depth-at done rest e j h =
      ap (λ i. get_or (map (depth ns) done) i 0) (ap (λ l. place_in l j) (sym e) ∙ place_front done rest j h)
      ∙ map_at (depth ns) done (place_in done j) 0 0 (place_within done j h) ∙ ap (depth ns) (place_at done j 0 h)

  moved_depths : (done todo : List ℕ) → done ++ todo ≡ o → Ordered ns done todo → depths_from (map (depth ns) done) (map new todo) ≡ map (depth ns) o
  unfolding depths_from Ordered
  moved_depths done [] e w = ap (map (depth ns)) (sym (append-nil done) ∙ e)
  moved_depths done (i ∷ todo) e w =
      ap (λ d. depths_from (map (depth ns) done ++ (d ∷ [])) (map new todo)) same
      ∙ subst (λ l. depths_from l (map new todo) ≡ map (depth ns) o) (map-append (depth ns) done (i ∷ [])) (moved_depths (done ++ (i ∷ [])) todo (append_assoc done (i ∷ []) todo ∙ e) w.1)
    where
      same : node_depth (λ j. get_or (map (depth ns) done) j 0) (new i) ≡ depth ns i
      same =
          depth_moved (λ j. get_or (map (depth ns) done) j 0) (place_in o) (node_at ns i)
          ∙ same_depth _ (depth ns) (node_at ns i) (λ j h. depth-at done (i ∷ todo) e j (w.0.earlier j h)) ∙ sym (depth_is ns earlier i w.0.within)

  pub new-depths : Sorted ns (length ns) o → depths (map new o) ≡ map (depth ns) o
  unfolding depths
  new-depths s = moved_depths [] o refl s.ordered
