-- Two different nodes of a store weigh together at most what the data sheet asks of the norm limit: an input weighs what its line gives, every other node 1.
use Rattle.std.specs.Prelude.{◌≡◌, refl}
use Rattle.std.proofs.Common.{ap, ◌∙◌, ⊎_elim, arith}
use mathlib.Core.List.{List, [], ◌∷◌, ◌++◌, map}
use Prim.Native.Nat.{ℕ, zero, suc, ◌+◌, ◌≤◌, ◌<◌, min, max}
use Rattle.laws.specs.Test.{lt_or_le}
use Rattle.rules.specs.Circuit.{Given}
use Rattle.rules.specs.Network.{LutNode, Input, Linear, Bootstrap, is_input, count, weight_of, node_at}
use Rattle.rules.specs.NetworkText.{Net}
use Rattle.mapped.specs.ReplyStatements.{two_largest, Plain}
use Rattle.mapped.specs.Store.{Store}

abbrev pub weighs : List LutNode → ℕ → ℕ
weighs nodes i = weight_of (node_at nodes i)

others_weigh-one : (nodes : List LutNode) → count is_input nodes ≡ 0 → (i : ℕ) → weighs nodes i ≡ 1
unfolding count is_input weight_of node_at
others_weigh-one [] e i = refl
others_weigh-one (Input g ∷ nodes) e i = absurd (omega arith)
others_weigh-one (Linear c ts ∷ nodes) e zero = refl
others_weigh-one (Linear c ts ∷ nodes) e (suc i) = others_weigh-one nodes (omega arith) i
others_weigh-one (Bootstrap j table ∷ nodes) e zero = refl
others_weigh-one (Bootstrap j table ∷ nodes) e (suc i) = others_weigh-one nodes (omega arith) i

-- ---- The two largest of a, b and the inputs' weights are at least a and b, a and a node, two nodes.

first_two : (gs : List Given) (a b : ℕ) → a + b ≤ two_largest a b gs
unfolding two_largest
first_two [] a b = omega arith
first_two (g ∷ gs) a b = omega (arith, first_two gs (max a g.weight) (max b (min a g.weight)))

module _ (rest : List LutNode) (others : count is_input rest ≡ 0) where
  first_and_node : (gs : List Given) (a b i : ℕ) → 1 ≤ b → a + weighs (map Input gs ++ rest) i ≤ two_largest a b gs
  unfolding two_largest weight_of node_at
  first_and_node [] a b i h = omega (arith, others_weigh-one rest others i)
  first_and_node (g ∷ gs) a b zero h = omega (arith, first_two gs (max a g.weight) (max b (min a g.weight)))
  first_and_node (g ∷ gs) a b (suc i) h = omega (arith, first_and_node gs (max a g.weight) (max b (min a g.weight)) i (omega arith))

  two_nodes : (gs : List Given) (a b i j : ℕ) → 1 ≤ a → 1 ≤ b → i < j → weighs (map Input gs ++ rest) i + weighs (map Input gs ++ rest) j ≤ two_largest a b gs
  unfolding two_largest weight_of node_at
  two_nodes [] a b i j h k l = omega (arith, others_weigh-one rest others i, others_weigh-one rest others j)
  two_nodes (g ∷ gs) a b i zero h k l = absurd (omega arith)
  two_nodes (g ∷ gs) a b zero (suc j) h k l = omega (arith, first_and_node gs (max a g.weight) (max b (min a g.weight)) j (omega arith))
  two_nodes (g ∷ gs) a b (suc i) (suc j) h k l = two_nodes gs (max a g.weight) (max b (min a g.weight)) i j (omega arith) (omega arith) (omega arith)

pub two_weigh : (n : Net) (inputs : List Given) (nodes : List LutNode) → Store n inputs nodes → (i j : ℕ) → (i ≡ j → ⊥) → weighs nodes i + weighs nodes j ≤ two_largest 1 1 inputs
two_weigh n inputs nodes store i j apart =
    rw store.first
    (⊎_elim
    (λ (l : i < j). two_nodes store.rest store.no_more inputs 1 1 i j (omega arith) (omega arith) l)
    (λ (l : j ≤ i). omega (arith, two_nodes store.rest store.no_more inputs 1 1 j i (omega arith) (omega arith) (omega arith)))
    (lt_or_le i j))

-- ---- Without weights.

pub plain_two : (gs : List Given) → Plain gs → two_largest 1 1 gs ≡ 2
unfolding two_largest Plain
plain_two [] p = refl
plain_two (g ∷ gs) p = ap (λ w. two_largest (max 1 w) (max 1 (min 1 w)) gs) p.0 ∙ plain_two gs p.1
