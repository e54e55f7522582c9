-- What is live is what pruning keeps.
use Rattle.std.specs.Prelude.{◌≡◌, refl, Bool, true, false, List, [], ◌∷◌, map, ℕ, suc, ◌+◌, ◌<◌, length, Some, None, is_some}
use Rattle.std.proofs.Common.{sym, ap, ap₂, subst, ◌∙◌, ⊎_elim, add-zero, true≢false}
use Rattle.std.proofs.Math.Nat.{zero-add}
use native.Mathlib.Omega.{arith}
use Rattle.std.proofs.Math.ListN.{get_or}
use Rattle.laws.specs.Test.{if◌then◌otherwise◌, decide}
use Rattle.rules.specs.Network.{Term, LutNode, Input, Linear, Bootstrap, member, node_at}
use Rattle.rules.specs.NetworkText.{sources}
use Rattle.rules.specs.Store.{needs, wanted_below, renumbered, renumbered_term, renumbered_node, kept_from}
use Rattle.theorems.specs.Members.{member_head, member-tail}
use Rattle.theorems.specs.Wanted.{wanted_closed}
use Rattle.nodes.specs.declared.store.Store.{Store}
use Rattle.nodes.specs.Store.{store_of, store_ordered}
use Rattle.writer.specs.Live.{NewNumbers, HasNumber, new_number, new_term, new_node, live_from, live_nodes, Sourced}

-- `live` numbers the nodes that are kept
pub record Numbered (kept : List ℕ) (live : NewNumbers) (count : ℕ) : Type 0 where
  pub at : (i : ℕ) → i < count → get_or live i None ≡ (if member i kept then Some (renumbered kept i) otherwise None)

-- what a kept node needs is kept
pub record Closed (kept : List ℕ) (store : Store) : Type 0 where
  pub needed : (i : ℕ) → i < length (store_of store) → member i kept ≡ true → (j : ℕ) → member j (needs (node_at (store_of store) i)) ≡ true → member j kept ≡ true

-- what pruning keeps is closed
pub closed : (store : Store) (wanted : List ℕ) → Closed (wanted_below (length (store_of store)) (store_of store) wanted) store
closed store wanted =
    record { needed = λ i h m j k. wanted_closed (store_of store) (store_ordered store) (length (store_of store)) wanted (omega arith) i h m j k }

-- ---- laws: the numbers

module _ (kept : List ℕ) (live : NewNumbers) (count : ℕ) (n : Numbered kept live count) (i : ℕ) (h : i < count) where
  kept-number : member i kept ≡ true → get_or live i None ≡ Some (renumbered kept i)
  kept-number m = n.at i h ∙ rw m

  pub has-number : member i kept ≡ true → HasNumber live i
  has-number m = rw (kept-number m) refl

  live-kept : HasNumber live i → member i kept ≡ true
  live-kept l =
      ⊎_elim (λ e. e) (λ (e : member i kept ≡ false). let z : get_or live i None ≡ None = n.at i h ∙ rw e in absurd (true≢false (sym (rw z at l)))) (decide (member i kept))

  pub new-kept : member i kept ≡ true → new_number live i ≡ renumbered kept i
  unfolding new_number
  new-kept m = rw (kept-number m) refl

same_terms : (kept : List ℕ) (live : NewNumbers) (ts : List Term) → ((j : ℕ) → member j (sources ts) ≡ true → new_number live j ≡ renumbered kept j)
    → map (new_term live) ts ≡ map (renumbered_term kept) ts
unfolding sources new_term renumbered_term
same_terms kept live [] h = refl
same_terms kept live (t ∷ ts) h =
    ap₂ {C = List Term} (λ x r. x ∷ r) (ap {B = Term} (λ k. record { coef = t.coef; node = k }) (h t.node (member_head t.node (sources ts))))
    (same_terms kept live ts (λ j m. h j (member-tail j t.node (sources ts) m)))

same_node : (kept : List ℕ) (live : NewNumbers) (x : LutNode) → ((j : ℕ) → member j (needs x) ≡ true → new_number live j ≡ renumbered kept j)
    → new_node live x ≡ renumbered_node kept x
unfolding needs new_node renumbered_node
same_node kept live (Input g) h = refl
same_node kept live (Linear c ts) h = ap (Linear c) (same_terms kept live ts h)
same_node kept live (Bootstrap i table) h = ap (λ k. Bootstrap k table) (h i (member_head i []))

-- ---- laws: the nodes

same_from : (kept : List ℕ) (live : NewNumbers) (i : ℕ) (xs : List LutNode)
    → ((k : ℕ) → k < length xs → get_or live (i + k) None ≡ (if member (i + k) kept then Some (renumbered kept (i + k)) otherwise None))
    → ((k : ℕ) → k < length xs → member (i + k) kept ≡ true → new_node live (node_at xs k) ≡ renumbered_node kept (node_at xs k))
    → live_from live i xs ≡ kept_from kept i xs
unfolding live_from kept_from node_at
same_from kept live i [] f g = refl
same_from kept live i (x ∷ xs) f g =
    by (member i kept) refl (rw add-zero at (f 0 (omega arith))) (λ m. g 0 (omega arith) (rw add-zero m))
    (same_from kept live (i + 1) xs (λ k l. subst (λ v. get_or live v None ≡ (if member v kept then Some (renumbered kept v) otherwise None)) (up k) (f (suc k) (omega arith)))
    (λ k l m. g (suc k) (omega arith) (subst (λ v. member v kept ≡ true) (sym (up k)) m)))
  where
    up : (k : ℕ) → i + suc k ≡ i + 1 + k
    up k = omega arith

    by : (b : Bool) → member i kept ≡ b → get_or live i None ≡ (if b then Some (renumbered kept i) otherwise None) → (member i kept ≡ true → new_node live x ≡ renumbered_node kept x)
        → live_from live (i + 1) xs ≡ kept_from kept (i + 1) xs
        → (if is_some (get_or live i None) then new_node live x ∷ live_from live (i + 1) xs otherwise live_from live (i + 1) xs)
        ≡ (if b then renumbered_node kept x ∷ kept_from kept (i + 1) xs otherwise kept_from kept (i + 1) xs)
    by true m e s r = rw e (ap₂ {C = List LutNode} (λ y l. y ∷ l) (s m) r)
    by false m e s r = rw e r

module _ (kept : List ℕ) (live : NewNumbers) (store : Store) (n : Numbered kept live (length (store_of store))) (c : Closed kept store) where
  needed_number : (i : ℕ) → i < length (store_of store) → member i kept ≡ true → (j : ℕ) → member j (needs (node_at (store_of store) i)) ≡ true → new_number live j ≡ renumbered kept j
  needed_number i h m j k =
      let l = store_ordered store i h j k in
      new-kept kept live (length (store_of store)) n j (omega arith) (c.needed i h m j k)

  -- the live nodes are those that pruning keeps, renumbered as it does
  pub kept-nodes : live_nodes live store ≡ kept_from kept 0 (store_of store)
  unfolding live_nodes
  kept-nodes =
      same_from kept live 0 (store_of store) (λ k h. rw zero-add (n.at k h))
      (λ k h m. same_node kept live (node_at (store_of store) k) (needed_number k h (rw zero-add at m)))

  pub kept_sourced : Sourced live store
  unfolding Sourced
  kept_sourced = λ i h p j m.
      let g = store_ordered store i h j m in
      has-number kept live (length (store_of store)) n j (omega arith) (c.needed i h (live-kept kept live (length (store_of store)) n i h p) j m)
