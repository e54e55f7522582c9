-- The numbers of the first nodes in their new order: each of them is there, and no other.
use Rattle.std.specs.Prelude.{◌≡◌, refl, Bool, true, List, [], ℕ, zero, suc, ◌+◌, ◌<◌, ◌≤◌, length, get_or}
use Rattle.std.specs.List.{insert}
use Rattle.std.proofs.Common.{sym, ap, ◌∙◌, true≢false, ⊎_elim, not-suc-le-zero, add-one, arith}
use Rattle.laws.specs.Test.{lt_or_le}
use Rattle.rules.specs.Network.{LutNode, node_at, member}
use Rattle.rules.specs.Regroup.{same_group, behind, order_up_to, order}
use Rattle.theorems.specs.Members.{member-at}
use Rattle.regroup.specs.Behind.{Behind, behind-length, behind_has, behind_keeps, behind_from}

-- Nodes k and j are tables of one node.
unfoldable pub shares : List LutNode → ℕ → ℕ → Bool
shares nodes k j = same_group (node_at nodes k) (node_at nodes j)

-- All are below n.
pub record Below (n : ℕ) (order : List ℕ) : Type 0 where
  pub at : (i : ℕ) → i < length order → get_or order i 0 < n

module _ (nodes : List LutNode) where
  pub order-length : (k : ℕ) → length (order_up_to nodes k) ≡ k
  unfolding order_up_to
  order-length zero = refl
  order-length (suc k) = behind-length _ k (order_up_to nodes k) ∙ ap suc (order-length k)

  order_below : (k j : ℕ) → member j (order_up_to nodes k) ≡ true → j < k
  unfolding order_up_to member
  order_below zero j h = absurd (true≢false (sym h))
  order_below (suc k) j h =
      ⊎_elim (λ (e : j ≡ k). omega arith) (λ (m : member j (order_up_to nodes k) ≡ true). let r = order_below k j m in omega arith) (behind_from _ k j (order_up_to nodes k) h)

  order-all : (k j : ℕ) → j < k → member j (order_up_to nodes k) ≡ true
  unfolding order_up_to
  order-all zero j h = absurd (not-suc-le-zero h)
  order-all (suc k) j h =
      ⊎_elim (λ (l : j < k). behind_keeps _ k j (order_up_to nodes k) (order-all k j l))
      (λ (l : k ≤ j). let e : j ≡ k = omega arith in rw e (behind_has _ k (order_up_to nodes k))) (lt_or_le j k)

  -- of the whole order
  pub all-ordered : length (order nodes) ≡ length nodes
  unfolding order
  all-ordered = order-length (length nodes)

  pub ordered-below : Below (length nodes) (order nodes)
  unfolding order
  ordered-below = record { at = λ i h. order_below (length nodes) (get_or (order_up_to nodes (length nodes)) i 0) (member-at (order_up_to nodes (length nodes)) i h) }

  pub is_ordered : (j : ℕ) → j < length nodes → member j (order nodes) ≡ true
  unfolding order
  is_ordered = order-all (length nodes)

  -- ---- laws: a loop over the nodes, of which the first k are in order

  pub arranged_none : [] ≡ order_up_to nodes 0
  unfolding order_up_to
  arranged_none = refl

  pub arranged_more : (k at : ℕ) (o : List ℕ) → o ≡ order_up_to nodes k → Behind (shares nodes k) o at → insert o at k ≡ order_up_to nodes (k + 1)
  unfolding order_up_to shares
  arranged_more k at o e b = rw add-one (sym (b.is k) ∙ ap (behind (λ j. same_group (node_at nodes k) (node_at nodes j)) k) e)

  pub arranged_all : (k : ℕ) (o : List ℕ) → k ≡ length nodes → o ≡ order_up_to nodes k → o ≡ order nodes
  unfolding order
  arranged_all k o h e = e ∙ ap (order_up_to nodes) h

  pub arranged_below : (k n : ℕ) (o : List ℕ) → k ≤ n → o ≡ order_up_to nodes k → Below n o
  arranged_below k n o h e =
      record {
        at = λ i l.
            let q : get_or o i 0 < k = order_below k (get_or o i 0) (rw (← e) (member-at o i l)) in
            omega arith;
      }

  pub arranged_length : (k : ℕ) (o : List ℕ) → o ≡ order_up_to nodes k → length o ≡ k
  arranged_length k o e = ap length e ∙ order-length k

pub ruleset arranging = (arranged_none, arranged_more, arranged_all, arranged_below, arranged_length)
