-- The store and the cones of the circuit's nodes on the way: what holds of them, and what a bootstrapped cone changes.
use Rattle.std.specs.Prelude.{◌≡◌, Option, Some, None, IfSome, List, [], ◌∷◌, ◌++◌, map, ℕ, ◌+◌, ◌≤◌, ◌<◌, length, get_or, set, All}
use Rattle.std.proofs.Common.{◌∙◌, sym, refl, ap, subst, arith, zero, suc, length-append, length-set}
use Rattle.std.proofs.lemmas.List.{get_or-map}
use Rattle.std.proofs.lemmas.List.Elements.{All-push, All-set}
use Rattle.rules.specs.declared.Wire.{Wire}
use Rattle.rules.specs.declared.Wire.TheVariants.{Const, Node}
use Rattle.rules.specs.Cone.{constant}
use Rattle.rules.specs.Mapper.{State, cone_at, replace}
use Rattle.cone.specs.declared.Cone.{Cone}
use Rattle.cone.specs.View.{cone_of}
use Rattle.cone.specs.Sources.{Stands}
use Rattle.nodes.specs.declared.store.Store.{Store}
use Rattle.nodes.specs.Store.{store_of}
use Rattle.gate.specs.View.{tried_of}

-- ---- What is held.

-- A wire that may be read: one of the first n nodes, or a constant.
abbrev pub WireIn : ℕ → Wire → Type 0
WireIn n (Const b) = b ≤ 1
WireIn n (Node i) = i < n

unfoldable pub state_of : Store → List Cone → State
state_of store wires = record { nodes = store_of store; cones = map cone_of wires }

-- There is a cone for each of the first n nodes, over the nodes of the store.
pub record Wired (store : Store) (wires : List Cone) (n : ℕ) : Type 0 where
  pub count : length wires ≡ n
  pub stands : All (Stands (length (store_of store))) wires

-- A bootstrapped cone takes its wire's place, if that is no constant.
unfoldable pub renewed : Wire → Option Cone → List Cone → List Cone
renewed (Const b) update wires = wires
renewed (Node i) None wires = wires
renewed (Node i) (Some c) wires = set wires i c

-- ---- laws: more nodes

pub stands_more : (count more : ℕ) (c : Cone) → count ≤ more → Stands count c → Stands more c
stands_more count more c h s =
    record { below = record { at = λ i l. (let b = s.below.at i l in omega arith) } }

pub some_stands_more : (count more : ℕ) (update : Option Cone) → count ≤ more → IfSome update (Stands count) → IfSome update (Stands more)
some_stands_more count more None h s = tt
some_stands_more count more (Some c) h s = stands_more count more c h s

pub wired_more : (store after : Store) (wires : List Cone) (n : ℕ) → Wired store wires n → length (store_of store) ≤ length (store_of after) → Wired after wires n
wired_more store after wires n w h = record { count = w.count; stands = λ i d l. stands_more (length (store_of store)) (length (store_of after)) _ h (w.stands i d l) }

pub wire_more : (n more : ℕ) (w : Wire) → n ≤ more → WireIn n w → WireIn more w
wire_more n more (Const b) h i = i
wire_more n more (Node j) h i = omega arith

-- one more
pub wired_push : (store : Store) (wires : List Cone) (c : Cone) (after : List Cone) (n : ℕ) → after ≡ wires ++ (c ∷ []) → Stands (length (store_of store)) c → Wired store wires n → Wired store after (n + 1)
wired_push store wires c after n e s w =
    record {
      count = ap length e ∙ length-append wires (c ∷ []) ∙ ap (λ k. k + 1) w.count;
      stands = subst (All (Stands (length (store_of store)))) (sym e) (All-push (Stands (length (store_of store))) wires c w.stands s);
    }

-- ---- laws: a wire that is read

-- c is what stands at place i
module _ (wires items : List Cone) (q : items ≡ wires) (w : Wire) (i : ℕ) (c : Cone) (e : w ≡ Node i) (h : WireIn (length wires) w) (r : c ≡ get_or items i c) where
  at_wire : c ≡ get_or wires i c
  at_wire = r ∙ ap (λ l. get_or l i c) q

  pub node_cone : cone_of c ≡ cone_at (map cone_of wires) w
  unfolding cone_at
  node_cone =
      let l : i < length wires = rw e at h in
      rw e (ap cone_of at_wire ∙ sym (get_or-map cone_of wires i c (constant 0) l))

  pub node_stands : (store : Store) (n : ℕ) → Wired store wires n → Stands (length (store_of store)) c
  node_stands store n k = let l : i < length wires = rw e at h in subst (Stands (length (store_of store))) (sym at_wire) (k.stands i c l)

pub constant_cone : (wires : List Cone) (w : Wire) (b : ℕ) (c : Cone) → w ≡ Const b → cone_of c ≡ constant b → cone_of c ≡ cone_at (map cone_of wires) w
unfolding cone_at
constant_cone wires w b c e f = rw e f

-- ---- laws: the cones that were bootstrapped

map_set : (wires : List Cone) (i : ℕ) (c : Cone) → map cone_of (set wires i c) ≡ set (map cone_of wires) i (cone_of c)
map_set [] i c = refl
map_set (w ∷ wires) zero c = refl
map_set (w ∷ wires) (suc i) c = ap (λ l. cone_of w ∷ l) (map_set wires i c)

pub renewed_cones : (wire : Wire) (update : Option Cone) (wires : List Cone) → map cone_of (renewed wire update wires) ≡ replace wire (tried_of update) (map cone_of wires)
unfolding renewed replace
renewed_cones (Const b) update wires = refl
renewed_cones (Node i) None wires = refl
renewed_cones (Node i) (Some c) wires = map_set wires i c

pub renewed_long : (wire : Wire) (update : Option Cone) (wires : List Cone) → length (renewed wire update wires) ≡ length wires
unfolding renewed
renewed_long (Const b) update wires = refl
renewed_long (Node i) None wires = refl
renewed_long (Node i) (Some c) wires = length-set wires i c

pub renewed_wired : (store : Store) (wire : Wire) (update : Option Cone) (wires : List Cone) (n : ℕ) → IfSome update (Stands (length (store_of store))) → Wired store wires n
    → Wired store (renewed wire update wires) n
unfolding renewed
renewed_wired store (Const b) update wires n s w = w
renewed_wired store (Node i) None wires n s w = w
renewed_wired store (Node i) (Some c) wires n s w = record { count = length-set wires i c ∙ w.count; stands = All-set (Stands (length (store_of store))) wires i c s w.stands }
