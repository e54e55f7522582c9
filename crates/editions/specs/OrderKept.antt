-- Regrouping keeps orders (document 02, S-11): the tables of a node keep theirs, and a node that is no later table of its source stands behind all nodes that it stood behind.
use Rattle.std.specs.Prelude.{◌≡◌, refl, Bool, true, false, List, [], ◌∷◌, ◌++◌, ◌⊎◌, ℕ, zero, suc, ◌+◌, ◌<◌, ◌≤◌, length}
use Rattle.std.proofs.Common.{sym, ap, subst, ◌∙◌, append_assoc, append-nil, ⊎_elim, arith}
use Rattle.laws.specs.Select.{any}
use Rattle.laws.specs.Test.{decide, eq-or-ne, lt_or_le, neither_left, neither_right, not_both}
use Rattle.rules.specs.Network.{LutNode, member}
use Rattle.rules.specs.NetworkText.{Net}
use Rattle.rules.specs.Regroup.{behind, order_up_to, order, place_in}
use Rattle.theorems.specs.Admissible.{NodesPass}
use Rattle.theorems.specs.Members.{member_head, member-tail, member_cons, member-left, member_right, member-either, no_member}
use Rattle.editions.specs.Places.{not_member, place_here, place_later, place_within, place_front, Put, behind_none, behind_some}
use Rattle.editions.specs.NewOrder.{Sorted, sorted_up_to}
use Rattle.editions.specs.Statements.{shares}

-- ---- Places behind others.

place_behind : (a b : List ℕ) (j : ℕ) → member j a ≡ false → place_in (a ++ b) j ≡ length a + place_in b j
place_behind [] b j h = omega arith
place_behind (i ∷ a) b j h =
    ⊎_elim (λ (e : i ≡ j). absurd (not_both (member j (i ∷ a)) (subst (λ k. member j (k ∷ a) ≡ true) (sym e) (member_head j a)) h))
    (λ (n : i ≡ j → ⊥).
    let r = place_behind a b j (not_member j a (λ m. not_both (member j (i ∷ a)) (member-tail j i a m) h)) in
    omega (arith, place_later i j (a ++ b) n))
    (eq-or-ne i j)

module _ (a b : List ℕ) (k : ℕ) where
  abbrev with_k : List ℕ
  with_k = a ++ (k ∷ b)

  place_new : member k a ≡ false → place_in with_k k ≡ length a
  place_new h = place_behind a (k ∷ b) k h ∙ ap (λ p. length a + p) (place_here k k b refl) ∙ omega arith

  -- one behind the new one is one further
  place_old : (j : ℕ) → (k ≡ j → ⊥) → member j a ≡ false → place_in with_k j ≡ suc (place_in (a ++ b) j)
  place_old j n h = omega (arith, place_behind a (k ∷ b) j h, place_behind a b j h, place_later k j b n)

  -- a new number changes nothing between the others
  still_before : (i j : ℕ) → (k ≡ i → ⊥) → (k ≡ j → ⊥) → place_in (a ++ b) i < place_in (a ++ b) j → place_in with_k i < place_in with_k j
  still_before i j m n l = by (member i a) (member j a) refl refl
    where
      by : (x y : Bool) → member i a ≡ x → member j a ≡ y → place_in with_k i < place_in with_k j
      by true true e f = omega (arith, place_front a (k ∷ b) i e, place_front a (k ∷ b) j f, place_front a b i e, place_front a b j f)
      by true false e f = omega (arith, place_front a (k ∷ b) i e, place_front a b i e, place_old j n f)
      by false true e f = absurd (omega (arith, place_behind a b i e, place_front a b j f, place_within a j f))
      by false false e f = omega (arith, place_old i m e, place_old j n f)

none_at : (f : ℕ → Bool) (l : List ℕ) (i : ℕ) → any f l ≡ false → member i l ≡ true → f i ≡ false
unfolding any
none_at f [] i e m = absurd (no_member i m)
none_at f (j ∷ l) i e m =
    ⊎_elim (λ (q : i ≡ j). ap f q ∙ neither_left (f j) (any f l) e) (λ (q : member i l ≡ true). none_at f l i (neither_right (f j) (any f l) e) q) (member_cons i j l m)

-- ---- The order.

-- From an order of the first k numbers to one with k: the others keep their order, k stands behind the tables of its node, and behind all where there are none.
record Step (ns : List LutNode) (k : ℕ) (o q : List ℕ) : Type 0 where
  still : (i j : ℕ) → i < k → j < k → place_in o i < place_in o j → place_in q i < place_in q j
  tables : (i : ℕ) → i < k → shares ns k i ≡ true → place_in q i < place_in q k
  alone : ((i : ℕ) → i < k → shares ns k i ≡ false) → (i : ℕ) → i < k → place_in q i < place_in q k

module _ (ns : List LutNode) (k : ℕ) (o : List ℕ) (s : Sorted ns k o) where
  -- k put behind a, where all tables of its node are
  put : (a b : List ℕ) → o ≡ a ++ b → any (shares ns k) b ≡ false → (((i : ℕ) → i < k → shares ns k i ≡ false) → b ≡ []) → Step ns k o (a ++ (k ∷ b))
  put a b e f g =
      record {
        still = λ i j x y h. still_before a b k i j (λ q. omega arith) (λ q. omega arith) (subst (λ l. place_in l i < place_in l j) e h);
        tables = λ i x h. ⊎_elim (in_front i) (λ (m : member i b ≡ true). absurd (not_both (shares ns k i) h (none_at (shares ns k) b i f m))) (somewhere i x);
        alone = λ h i x. ⊎_elim (in_front i) (λ (m : member i b ≡ true). absurd (no_member i (subst (λ l. member i l ≡ true) (g h) m))) (somewhere i x);
      }
    where
      fresh : member k a ≡ false
      fresh = not_member k a (λ m. let r = s.below k (subst (λ l. member k l ≡ true) (sym e) (member-left k a b m)) in omega arith)

      in_front : (i : ℕ) → member i a ≡ true → place_in (a ++ (k ∷ b)) i < place_in (a ++ (k ∷ b)) k
      in_front i m = omega (arith, place_front a (k ∷ b) i m, place_within a i m, place_new a b k fresh)

      somewhere : (i : ℕ) → i < k → (member i a ≡ true) ⊎ (member i b ≡ true)
      somewhere i x = member-either i a b (subst (λ l. member i l ≡ true) e (s.all i x))

  at-end : any (shares ns k) o ≡ false → Step ns k o (behind (shares ns k) k o)
  at-end h = subst (Step ns k o) (sym (behind_none (shares ns k) k o h)) (put o [] (sym (append-nil o)) (unfold any in refl) (λ q. refl))

  in_group : Put (shares ns k) k o → Step ns k o (behind (shares ns k) k o)
  in_group q =
      subst (Step ns k o) (append_assoc q.front (q.at ∷ []) (k ∷ q.back) ∙ sym q.is)
      (put (q.front ++ (q.at ∷ [])) q.back (q.was ∙ sym (append_assoc q.front (q.at ∷ []) q.back)) q.last
      (λ h. absurd (not_both (shares ns k q.at) q.holds (h q.at (s.below q.at there)))))
    where
      there : member q.at o ≡ true
      there = subst (λ l. member q.at l ≡ true) (sym q.was) (member_right q.at q.front (q.at ∷ q.back) (member_head q.at q.back))

  step : Step ns k o (behind (shares ns k) k o)
  step = ⊎_elim (λ (h : any (shares ns k) o ≡ true). in_group (behind_some (shares ns k) k o h)) at-end (decide (any (shares ns k) o))

module _ (n : Net) (ns : List LutNode) (p : NodesPass n [] ns) where
  step-at : (k : ℕ) → k < length ns → Step ns k (order_up_to ns k) (order_up_to ns (suc k))
  unfolding order_up_to
  step-at k l = step ns k (order_up_to ns k) (sorted_up_to n ns p k (omega arith))

  later_too : (k i j : ℕ) → i < j → j < k → k ≤ length ns → place_in (order_up_to ns (suc j)) i < place_in (order_up_to ns (suc j)) j → place_in (order_up_to ns k) i < place_in (order_up_to ns k) j
  later_too zero i j x y l h = absurd (omega arith)
  later_too (suc k) i j x y l h =
      ⊎_elim (λ (z : j < k). (step-at k l).still i j (omega arith) z (later_too k i j x z (omega arith) h))
      (λ (z : k ≤ j). let e : j ≡ k = omega arith in subst (λ m. place_in (order_up_to ns (suc m)) i < place_in (order_up_to ns (suc m)) j) e h)
      (lt_or_le j k)

-- Tables of one node keep their order, and a node without an earlier table of its source stands behind all nodes of lower numbers.
pub record OrderKept (ns : List LutNode) : Type 0 where
  pub tables : (i j : ℕ) → i < j → j < length ns → shares ns j i ≡ true → place_in (order ns) i < place_in (order ns) j
  pub others : (i j : ℕ) → i < j → j < length ns → ((h : ℕ) → h < j → shares ns j h ≡ false) → place_in (order ns) i < place_in (order ns) j

pub order-kept : (n : Net) (ns : List LutNode) → NodesPass n [] ns → OrderKept ns
unfolding order
order-kept n ns p =
    record {
      tables = λ i j x y h. later_too n ns p (length ns) i j x y (omega arith) ((step-at n ns p j y).tables i x h);
      others = λ i j x y h. later_too n ns p (length ns) i j x y (omega arith) ((step-at n ns p j y).alone h i x);
    }
