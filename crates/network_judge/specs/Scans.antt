-- The walks over a sum's sources and over the nodes.
use Rattle.std.specs.Prelude.{◌≡◌, Bool, false, ◌||◌, List, [], ◌∷◌, ℕ}
use Rattle.std.specs.List.{list_any}
use Rattle.std.proofs.Common.{refl, ap}
use Rattle.laws.specs.Select.{any}
use Rattle.rules.specs.Circuit as C
use Rattle.rules.specs.CircuitText.{same_name, listed}
use Rattle.rules.specs.Network.{LutNode, Input, Linear, Bootstrap, is_linear, node_at}
use Rattle.rules.specs.NetworkText.{names, sources, unknown, any_bad_source}
use Rattle.nodes.specs.Terms.{summands}
use Rattle.nodes.specs.View.{term, lut_node, nodes_of}
use Rattle.nodes.specs.declared.store.Stored.{Stored}
use Rattle.nodes.specs.declared.terms.Summand.{Summand}

-- ---- A sum's sources.

-- Not an earlier node, or a sum.
unfoldable pub bad_source : List LutNode → ℕ → Bool
bad_source ns i = unknown ns i || is_linear (node_at ns i)

-- Of the code's terms.
abbrev pub bad_summand : List LutNode → Summand → Bool
bad_summand ns s = bad_source ns s.node

pub any_bad : (ns : List LutNode) (ss : List Summand) → list_any (bad_summand ns) ss ≡ any_bad_source ns (sources (summands ss))
unfolding any_bad_source bad_source sources summands term
any_bad ns [] = refl
any_bad ns (s ∷ ss) = ap (λ b. (unknown ns s.node || is_linear (node_at ns s.node)) || b) (any_bad ns ss)

-- ---- The nodes of a store.

abbrev pub of_stored : (LutNode → Bool) → Stored → Bool
of_stored f s = f (lut_node s.node)

pub any_stored : (f : LutNode → Bool) (ss : List Stored) → list_any (of_stored f) ss ≡ any f (nodes_of ss)
unfolding any nodes_of
any_stored f [] = refl
any_stored f (s ∷ ss) = ap (λ b. f (lut_node s.node) || b) (any_stored f ss)

-- An input with this name.
unfoldable pub has_name : C.Name → LutNode → Bool
has_name name (Input g) = same_name name g.name
has_name name (Linear c ts) = false
has_name name (Bootstrap i table) = false

pub any_name : (name : C.Name) (ns : List LutNode) → any (has_name name) ns ≡ listed name (names ns)
unfolding any has_name listed names
any_name name [] = refl
any_name name (Input g ∷ ns) = ap (λ b. same_name name g.name || b) (any_name name ns)
any_name name (Linear c ts ∷ ns) = any_name name ns
any_name name (Bootstrap i table ∷ ns) = any_name name ns
