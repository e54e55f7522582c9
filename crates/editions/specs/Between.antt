-- Tables stand together exactly where what stands between two tables of a node is one of them.
use Rattle.std.specs.Prelude.{◌≡◌, true, ℕ, zero, suc, ◌+◌, ◌-◌, ◌<◌, ◌≤◌, length, take}
use Rattle.std.proofs.Math.Path.{refl, ap}
use Rattle.std.proofs.Common.{sym, subst, ◌∙◌, ⊎_elim, arith}
use mathlib.Core.List.{List, [], ◌∷◌, ◌++◌, append_assoc}
use Rattle.std.proofs.Math.ListN.{length-append}
use Rattle.laws.specs.Select.{any, any_at, any_found}
use Rattle.laws.specs.Test.{lt_or_le}
use Rattle.rules.specs.Network.{LutNode, node_at}
use Rattle.rules.specs.Regroup.{same_group}
use Rattle.theorems.specs.NodesAt.{no_input, node-before, node_next, taken-node}
use Rattle.editions.specs.Statements.{shares, Together}
use Rattle.editions.specs.NewOrder.{taken-length}
use Rattle.editions.specs.Joined.{Joined, joined_at}
use Rattle.editions.specs.Together.{Grouped, group_other, group_through}

module _ (ns : List LutNode) where
  alike : (i j k : ℕ) → shares ns i j ≡ true → shares ns j k ≡ true → shares ns i k ≡ true
  alike i j k h g = group_through (node_at ns i) (node_at ns j) (node_at ns k) h g

  other : (i j : ℕ) → shares ns i j ≡ true → shares ns j i ≡ true
  other i j h = group_other (node_at ns i) (node_at ns j) h

  -- ---- From one to the one just before it.

  module _ (g : Grouped ns) where
    before_it : (i k : ℕ) → i ≤ k → suc k < length ns → shares ns i (suc k) ≡ true → shares ns i k ≡ true
    unfolding node_at
    before_it i k h l e =
        alike i (suc k) k e
        (joined_at same_group no_input no_input [] ns g k l
        (any_at (same_group (node_at ns (suc k))) (take (suc k) ns) no_input i (omega (arith, taken-length (suc k) ns (omega arith))) (ap (same_group (node_at ns (suc k))) (taken-node (suc k) i ns (omega arith)) ∙ other i (suc k) e)))

    down : (d i j k : ℕ) → i < j → k ≡ j + suc d → k < length ns → shares ns i k ≡ true → shares ns i j ≡ true
    down zero i j k a b l e = before_it i j (omega arith) (omega arith) (subst (λ m. shares ns i m ≡ true) (omega arith) e)
    down (suc d) i j k a b l e = down d i j (j + suc d) a refl (omega arith) (before_it i (j + suc d) (omega arith) (omega arith) (subst (λ m. shares ns i m ≡ true) (omega arith) e))

    pub grouped_together : Together ns
    grouped_together i j k a b l e = down (k - suc j) i j k a (omega arith) l e

  -- ---- And back.

  module _ (t : Together ns) where
    joined_from : (last : LutNode) (before xs : List LutNode) → before ++ xs ≡ ns → ((k : ℕ) → suc k ≡ length before → node_at ns k ≡ last) → Joined same_group last before xs
    unfolding Joined node_at
    joined_from last before [] e h = tt
    joined_from last before (x ∷ xs) e h =
        (like_last, joined_from x (before ++ (x ∷ [])) xs (append_assoc before (x ∷ []) xs ∙ e) (λ k q. ap (λ ms. node_at ms k) (sym e) ∙ node_next before x xs k (omega (arith, length-append before (x ∷ [])))))
      where
        at : node_at ns (length before) ≡ x
        at = ap (λ ms. node_at ms (length before)) (sym e) ∙ node_next before x xs (length before) refl

        long : length before < length ns
        long = omega (arith, ap length e, length-append before (x ∷ xs))

        found : (k : ℕ) → suc k ≡ length before → shares ns (length before) k ≡ true → same_group x last ≡ true
        found k q e = ap (λ y. same_group y last) (sym at) ∙ ap (same_group (node_at ns (length before))) (sym (h k q)) ∙ e

        like_last : any (same_group x) before ≡ true → same_group x last ≡ true
        like_last q =
            let f = any_found (same_group x) before no_input q in
            let i = f.0 in
            let l = f.1 in
            let same : shares ns (length before) i ≡ true = ap (λ y. same_group y (node_at ns i)) at ∙ ap (same_group x) (ap (λ ms. node_at ms i) (sym e) ∙ node-before before (x ∷ xs) i l) ∙ f.2 in
            ⊎_elim
            (λ (m : suc i < length before). found (length before - 1) (omega arith) (alike (length before) i (length before - 1) same (t i (length before - 1) (length before) (omega arith) (omega arith) long (other (length before) i same))))
            (λ (m : length before ≤ suc i). found i (omega arith) same)
            (lt_or_le (suc i) (length before))

    pub together_grouped : Grouped ns
    together_grouped = joined_from no_input [] ns refl (λ k q. absurd (omega arith))
