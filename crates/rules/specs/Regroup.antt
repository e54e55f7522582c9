-- All tables of one node together (document 02, S-11): a network with its tables regrouped and its nodes numbered anew.
use Rattle.std.specs.Prelude.{Bool, false, ◌&&◌, not, List, [], ◌∷◌, map, ℕ, zero, suc, eqb, length}
use Rattle.laws.specs.Select.{any}
use Rattle.laws.specs.Test.{if◌then◌otherwise◌}
use Rattle.rules.specs.declared.Wire.{Wire}
use Rattle.rules.specs.declared.Wire.TheVariants.{Const, Node}
use Rattle.rules.specs.Circuit.{Output}
use Rattle.rules.specs.Network.{Term, LutNode, Input, Linear, Bootstrap, Network, node_at}

-- Both are tables of one node.
unfoldable pub same_group : LutNode → LutNode → Bool
same_group (Input n) y = false
same_group (Linear c ts) y = false
same_group (Bootstrap i table) (Input n) = false
same_group (Bootstrap i table) (Linear c ts) = false
same_group (Bootstrap i table) (Bootstrap j other) = eqb i j

-- x put behind the last of these at which f holds, at the end where there is none.
unfoldable pub behind : {A : Type 0} → (A → Bool) → A → List A → List A
behind f x [] = x ∷ []
behind f x (y ∷ ys) =
    let r = behind f x ys in
    if f y && not (any f ys) then y ∷ x ∷ ys otherwise y ∷ r

-- The numbers of the first k nodes in their new order: each in turn behind the tables of its node, or at the end.
unfoldable pub order_up_to : List LutNode → ℕ → List ℕ
order_up_to ns zero = []
order_up_to ns (suc k) = behind (λ j. same_group (node_at ns k) (node_at ns j)) k (order_up_to ns k)

unfoldable pub order : List LutNode → List ℕ
order ns = order_up_to ns (length ns)

-- The place of a number in a list of them.
unfoldable pub place_in : List ℕ → ℕ → ℕ
place_in [] j = 0
place_in (i ∷ is) j = let r = place_in is j in if eqb i j then 0 otherwise suc r

-- ---- New numbers.

unfoldable pub moved_term : (ℕ → ℕ) → Term → Term
moved_term to t = record { coef = t.coef; node = to t.node }

unfoldable pub moved_node : (ℕ → ℕ) → LutNode → LutNode
moved_node to (Input n) = Input n
moved_node to (Linear c ts) = Linear c (map (moved_term to) ts)
moved_node to (Bootstrap i table) = Bootstrap (to i) table

unfoldable pub moved_wire : (ℕ → ℕ) → Wire → Wire
moved_wire to (Const b) = Const b
moved_wire to (Node i) = Node (to i)

unfoldable pub moved_output : (ℕ → ℕ) → Output → Output
moved_output to o = record { name = o.name; wire = moved_wire to o.wire }

-- The nodes in this order, numbered by it.
unfoldable pub reordered : List ℕ → Network → Network
reordered o w =
    record {
      p = w.p;
      m = w.m;
      norm = w.norm;
      nodes = map (λ i. moved_node (place_in o) (node_at w.nodes i)) o;
      outputs = map (moved_output (place_in o)) w.outputs;
    }

-- The tables of each node stand together at the place of the first, in their order; all else keeps its order.
unfoldable pub regrouped : Network → Network
regrouped w = reordered (order w.nodes) w
