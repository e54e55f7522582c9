-- The store: its nodes pass admission in turn, the inputs first, and it only grows.
use Rattle.std.specs.Prelude.{◌≡◌, false, List, [], ◌∷◌, ◌++◌, map, ℕ, ◌<◌, ◌≤◌, length, get_or, ℤ, pos, nat_abs}
use Rattle.std.proofs.Common.{sym, ap, ◌∙◌, subst, append-nil, append_assoc, ⊎_elim, arith, length-append}
use Rattle.rules.specs.Network.{LutNode, is_linear, Input, is_input, count, node_at}
use Rattle.rules.specs.NetworkText.{Net, NodeLine}
use Rattle.rules.specs.Circuit.{Given}
use Rattle.rules.specs.declared.Settings.{Settings}
use Rattle.rules.specs.Store.{intern}
use Rattle.theorems.specs.Admissible.{NodesPass, Passes, nodes_snoc}
use Rattle.theorems.specs.Counts.{count_snoc}
use Rattle.theorems.specs.Interned.{interned}
use Rattle.theorems.specs.NodesAt.{node-before}

-- Each of these is an earlier node and no sum.
unfoldable pub Sources : List LutNode → List ℕ → Type 0
Sources nodes [] = Unit {0}
Sources nodes (n ∷ ns) = ((n < length nodes) × (is_linear (node_at nodes n) ≡ false)) × Sources nodes ns

-- The nodes pass admission in turn; the inputs are the first of them.
pub record Store (n : Net) (inputs : List Given) (nodes : List LutNode) : Type 0 where
  pub passes : NodesPass n [] nodes
  pub rest : List LutNode
  pub first : nodes ≡ map Input inputs ++ rest
  pub no_more : count is_input rest ≡ 0

-- The value of a node as a bit, under values of all nodes.
unfoldable pub bit_of : List ℤ → ℕ → ℕ
bit_of values n = nat_abs (get_or values n (pos 0))

-- One store has the other as its front.
pub record Grown (nodes more : List LutNode) : Type 0 where
  pub tail : List LutNode
  pub is : more ≡ nodes ++ tail

-- The net line of a network that is mapped with these settings.
abbrev pub net_for : Settings → Net
net_for s = record { p = s.p; m = s.m; norm = s.norm }

-- ---- It grows.

pub grown_refl : (nodes : List LutNode) → Grown nodes nodes
grown_refl nodes = record { tail = []; is = sym (append-nil nodes) }

pub grown_trans : (a b c : List LutNode) → Grown a b → Grown b c → Grown a c
grown_trans a b c g h =
    record { tail = g.tail ++ h.tail; is = h.is ∙ ap (λ t. t ++ h.tail) g.is ∙ append_assoc a g.tail h.tail }

pub grown_longer : (nodes more : List LutNode) → Grown nodes more → length nodes ≤ length more
grown_longer nodes more g = omega (arith, ap length g.is, length-append nodes g.tail)

pub grown_node : (nodes more : List LutNode) (i : ℕ) → Grown nodes more → i < length nodes → node_at more i ≡ node_at nodes i
grown_node nodes more i g h = ap (λ ms. node_at ms i) g.is ∙ node-before nodes g.tail i h

pub grown_sources : (nodes more : List LutNode) (ns : List ℕ) → Grown nodes more → Sources nodes ns → Sources more ns
unfolding Sources
grown_sources nodes more [] g h = tt
grown_sources nodes more (n ∷ ns) g h =
    let l = h.0.0 in
    ((omega (arith, grown_longer nodes more g), ap is_linear (grown_node nodes more n g l) ∙ h.0.1), grown_sources nodes more ns g h.1)

-- ---- One more node.

store_snoc : (n : Net) (inputs : List Given) (nodes : List LutNode) (x : LutNode) → Store n inputs nodes → Passes n nodes [] (NodeLine x) → is_input x ≡ false
    → Store n inputs (nodes ++ (x ∷ []))
store_snoc n inputs nodes x s p e =
    record {
      passes = nodes_snoc n [] nodes x s.passes p;
      rest = s.rest ++ (x ∷ []);
      first = ap {B = List LutNode} (λ ms. ms ++ (x ∷ [])) s.first ∙ append_assoc (map Input inputs) s.rest (x ∷ []);
      no_more = count_snoc is_input s.rest x ∙ rw (s.no_more, e);
    }

-- An interned node that passes after the nodes keeps the store.
pub store_interned : (n : Net) (inputs : List Given) (nodes : List LutNode) (x : LutNode) → Store n inputs nodes → Passes n nodes [] (NodeLine x) → is_input x ≡ false
    → Store n inputs (intern x nodes)
store_interned n inputs nodes x s p e =
    ⊎_elim (λ h. subst (Store n inputs) (sym h) s) (λ h. subst (Store n inputs) (sym h) (store_snoc n inputs nodes x s p e)) (interned x nodes).is

pub grown_interned : (x : LutNode) (nodes : List LutNode) → Grown nodes (intern x nodes)
grown_interned x nodes =
    ⊎_elim (λ h. record { tail = []; is = h ∙ sym (append-nil nodes) }) (λ h. record { tail = x ∷ []; is = h }) (interned x nodes).is
