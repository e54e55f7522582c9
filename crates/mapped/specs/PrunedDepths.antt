-- Pruning keeps the depth of each node that it keeps.
use Rattle.std.specs.Prelude.{◌≡◌, true, ℕ, suc, ◌+◌, ◌≤◌, ◌<◌, max, length}
use Rattle.std.proofs.Math.Path.{refl, ap, subst}
use Rattle.std.proofs.Common.{sym, ap₂, ◌∙◌, ⊎_elim, arith}
use mathlib.Core.List.{List, [], ◌∷◌, ◌++◌, map, append_assoc, append-nil}
use Rattle.std.proofs.Math.ListN.{length-append}
use Rattle.laws.specs.Test.{lt_or_le}
use Rattle.rules.specs.Circuit.{Output}
use Rattle.rules.specs.Network.{Term, LutNode, Input, Linear, Bootstrap, node_at, member, largest, node_depth, depth}
use Rattle.rules.specs.Store.{needs, live, renumbered, renumbered_term, renumbered_node, kept_from}
use Rattle.theorems.specs.Depths.{same_depth, depth-stays, depth-new}
use Rattle.theorems.specs.EarlierNodes.{Ordered}
use Rattle.theorems.specs.Members.{Among, among_at}
use Rattle.theorems.specs.Weights.{AllWithin}
use Rattle.mapped.specs.PrunedLive.{ClosedFrom, live-closed}
use Rattle.mapped.specs.PrunedNodes.{nodes-length, nodes-append, node_within, node_kept}

module _ (kept : List ℕ) where
  -- ---- A node with its new numbers, by the depths at the new numbers.

  new_deepest : (d : ℕ → ℕ) (ts : List Term) → largest (λ (t : Term). d t.node) (map (renumbered_term kept) ts) ≡ largest (λ (t : Term). d (renumbered kept t.node)) ts
  unfolding largest renumbered_term
  new_deepest d [] = refl
  new_deepest d (t ∷ ts) = ap (max (d (renumbered kept t.node))) (new_deepest d ts)

  new-depth : (d : ℕ → ℕ) (x : LutNode) → node_depth d (renumbered_node kept x) ≡ node_depth (λ j. d (renumbered kept j)) x
  unfolding node_depth renumbered_node
  new-depth d (Input a) = refl
  new-depth d (Linear c ts) = new_deepest d ts
  new-depth d (Bootstrap i table) = refl

  -- ---- One node more.

  -- Each of these nodes that is kept is as deep as it was.
  abbrev Same : List LutNode → Type 0
  Same xs = (j : ℕ) → j < length xs → member j kept ≡ true → depth (kept_from kept 0 xs) (renumbered kept j) ≡ depth xs j

  module _ (xs : List LutNode) (x : LutNode) (same : Same xs) (within : AllWithin xs (needs x)) (closed : member (length xs) kept ≡ true → Among (needs x) kept) where
    before_it : (j : ℕ) → j < length xs → member j kept ≡ true → depth (kept_from kept 0 (xs ++ (x ∷ []))) (renumbered kept j) ≡ depth (xs ++ (x ∷ [])) j
    before_it j l h =
        ap (λ ns. depth ns (renumbered kept j)) (nodes-append kept xs (x ∷ []))
        ∙ depth-stays (kept_from kept 0 xs) (kept_from kept (length xs) (x ∷ [])) (renumbered kept j) (node_within kept xs j l h)
        ∙ same j l h ∙ sym (depth-stays xs (x ∷ []) j l)

    itself : member (length xs) kept ≡ true → depth (kept_from kept 0 (xs ++ (x ∷ []))) (renumbered kept (length xs)) ≡ depth (xs ++ (x ∷ [])) (length xs)
    itself h =
        ap₂ depth (node_kept kept xs x h) (sym (nodes-length kept xs))
        ∙ depth-new (kept_from kept 0 xs) (renumbered_node kept x)
        ∙ new-depth (depth (kept_from kept 0 xs)) x
        ∙ same_depth (λ j. depth (kept_from kept 0 xs) (renumbered kept j)) (depth xs) x (λ j m. same j (within j m) (among_at (needs x) kept (closed h) j m))
        ∙ sym (depth-new xs x)

    same_snoc : Same (xs ++ (x ∷ []))
    same_snoc j l h =
        ⊎_elim (λ (k : j < length xs). before_it j k h)
        (λ (k : length xs ≤ j).
        let e : length xs ≡ j = omega (arith, length-append xs (x ∷ [])) in
        subst (λ i. depth (kept_from kept 0 (xs ++ (x ∷ []))) (renumbered kept i) ≡ depth (xs ++ (x ∷ [])) i) e (itself (subst (λ i. member i kept ≡ true) (sym e) h)))
        (lt_or_le j (length xs))

  -- ---- All of them.

  same_all : (before xs : List LutNode) → Same before → ((i : ℕ) → i < length xs → (j : ℕ) → member j (needs (node_at xs i)) ≡ true → j < length before + i)
      → ClosedFrom kept (length before) xs → Same (before ++ xs)
  unfolding ClosedFrom node_at
  same_all before [] same earlier c = subst Same (sym (append-nil before)) same
  same_all before (x ∷ xs) same earlier c =
      subst Same (append_assoc before (x ∷ []) xs)
      (same_all (before ++ (x ∷ [])) xs (same_snoc before x same (λ j m. let r = earlier 0 (omega arith) j m in omega arith) c.0)
      (λ i l j m. let r = earlier (suc i) (omega arith) j m in omega (arith, length-append before (x ∷ [])))
      (subst (λ k. ClosedFrom kept k xs) (sym (length-append before (x ∷ []))) c.1))

-- A kept node, under its new number, is as deep as it was.
pub pruning_keeps_depth : (nodes : List LutNode) (outputs : List Output) → Ordered nodes → (i : ℕ) → i < length nodes → member i (live nodes outputs) ≡ true
    → depth (kept_from (live nodes outputs) 0 nodes) (renumbered (live nodes outputs) i) ≡ depth nodes i
pruning_keeps_depth nodes outputs o =
    same_all (live nodes outputs) [] nodes (λ j l h. absurd (omega arith)) (λ i l j m. let r = o i l j m in omega arith) (live-closed nodes outputs o)
