-- Regrouping puts the tables of each node together, and changes nothing where they stand together (document 02, S-11).
use Rattle.std.specs.Prelude.{◌≡◌, Bool, false, ◌||◌, ℕ, zero, suc, ◌<◌, ◌≤◌, eqb, length, take}
use Rattle.std.proofs.Math.Path.{refl, ap, ap₂, subst}
use Rattle.std.proofs.Common.{sym, ◌∙◌, true≢false, ⊎_elim, arith, eqb-true, eq-eqb, ne_eqb, leb-false}
use Rattle.std.proofs.Math.Bool.{true}
use mathlib.Core.List.{List, [], ◌∷◌, ◌++◌, map, append_assoc, map-append, map-id}
use Rattle.std.proofs.Math.Seq.{take-length}
use Rattle.laws.specs.Select.{any, any_none}
use Rattle.laws.specs.Tabulate.{tabulate, numbers, numbers_snoc}
use Rattle.laws.specs.Test.{decide, eq-or-ne}
use Rattle.rules.specs.declared.Wire.{Wire}
use Rattle.rules.specs.declared.Wire.TheVariants.{Const, Node}
use Rattle.rules.specs.Circuit.{Output}
use Rattle.rules.specs.CircuitText.{no_node}
use Rattle.rules.specs.Network.{Term, LutNode, Input, Linear, Bootstrap, Network, member, node_at}
use Rattle.rules.specs.NetworkText.{Net, sources}
use Rattle.rules.specs.Regroup.{same_group, behind, order_up_to, order, place_in, moved_term, moved_node, moved_wire, moved_output, reordered, regrouped}
use Rattle.rules.specs.Store.{needs}
use Rattle.theorems.specs.Admissible.{OutputsPass, net_of, Admissible, out_passes}
use Rattle.theorems.specs.Members.{member_head, member-tail, member-left, member_right}
use Rattle.theorems.specs.NodesAt.{no_input}
use Rattle.theorems.specs.EarlierNodes.{pass_ordered}
use Rattle.editions.specs.Places.{place_same, place_number, Put, behind_none, behind_some, behind-last}
use Rattle.editions.specs.NewOrder.{Sorted, order-sorted}
use Rattle.editions.specs.Moved.{numbered_nodes}
use Rattle.editions.specs.Joined.{Joined, joined_end, joined_put, joined_at}
use Rattle.editions.specs.Statements.{shares}

-- The tables of each node stand together: each that is like one before it is like the last before it.
abbrev pub Grouped : List LutNode → Type 0
Grouped ns = Joined same_group no_input [] ns

-- ---- Tables of one node are alike.

pub group_other : (x y : LutNode) → same_group x y ≡ true → same_group y x ≡ true
unfolding same_group
group_other (Input a) y h = absurd (true≢false (sym h))
group_other (Linear c ts) y h = absurd (true≢false (sym h))
group_other (Bootstrap i t) (Input a) h = absurd (true≢false (sym h))
group_other (Bootstrap i t) (Linear c ts) h = absurd (true≢false (sym h))
group_other (Bootstrap i t) (Bootstrap j u) h = eq-eqb j i (sym (eqb-true i j h))

pub group_through : (x y z : LutNode) → same_group x y ≡ true → same_group y z ≡ true → same_group x z ≡ true
unfolding same_group
group_through (Input a) y z h k = absurd (true≢false (sym h))
group_through (Linear c ts) y z h k = absurd (true≢false (sym h))
group_through (Bootstrap i t) (Input a) z h k = absurd (true≢false (sym h))
group_through (Bootstrap i t) (Linear c ts) z h k = absurd (true≢false (sym h))
group_through (Bootstrap i t) (Bootstrap j u) (Input a) h k = absurd (true≢false (sym k))
group_through (Bootstrap i t) (Bootstrap j u) (Linear c ts) h k = absurd (true≢false (sym k))
group_through (Bootstrap i t) (Bootstrap j u) (Bootstrap l v) h k = eq-eqb i l (eqb-true i j h ∙ eqb-true j l k)

-- ---- The order has them together.

order_joined : (ns : List LutNode) (k : ℕ) → Joined (shares ns) 0 [] (order_up_to ns k)
unfolding order_up_to Joined
order_joined ns zero = tt
order_joined ns (suc k) =
    let j = order_joined ns k in
    ⊎_elim (λ (h : any (shares ns k) (order_up_to ns k) ≡ true). in_group j (behind_some (shares ns k) k (order_up_to ns k) h))
    (λ (h : any (shares ns k) (order_up_to ns k) ≡ false).
    subst (Joined (shares ns) 0 []) (sym (behind_none (shares ns k) k (order_up_to ns k) h)) (joined_end (shares ns) 0 [] (order_up_to ns k) k h j))
    (decide (any (shares ns k) (order_up_to ns k)))
  where
    in_group : Joined (shares ns) 0 [] (order_up_to ns k) → Put (shares ns k) k (order_up_to ns k) → Joined (shares ns) 0 [] (behind (shares ns k) k (order_up_to ns k))
    in_group j q =
        subst (Joined (shares ns) 0 []) (sym q.is)
        (joined_put (shares ns) (λ x y. group_other (node_at ns x) (node_at ns y)) (λ x y z. group_through (node_at ns x) (node_at ns y) (node_at ns z)) 0 [] q.front q.at k q.back
        q.holds q.last (subst (Joined (shares ns) 0 []) q.was j))

-- ---- So have the nodes with their new numbers.

module _ (f : ℕ → LutNode) (R : ℕ → ℕ → Bool) (o : List ℕ) (same : (i j : ℕ) → member i o ≡ true → member j o ≡ true → same_group (f i) (f j) ≡ R i j) where
  any_mapped : (i : ℕ) (l : List ℕ) → member i o ≡ true → ((j : ℕ) → member j l ≡ true → member j o ≡ true) → any (same_group (f i)) (map f l) ≡ any (R i) l
  unfolding any
  any_mapped i [] h w = refl
  any_mapped i (j ∷ l) h w =
      ap₂ {C = Bool} (λ a b. a || b) (same i j h (w j (member_head j l))) (any_mapped i l h (λ k m. w k (member-tail k j l m)))

  joined_mapped : (last : ℕ) (before todo : List ℕ) → before ++ todo ≡ o → member last o ≡ true → Joined R last before todo → Joined same_group (f last) (map f before) (map f todo)
  unfolding Joined
  joined_mapped last before [] e m j = tt
  joined_mapped last before (x ∷ todo) e m j = (
    λ h. same x last here m ∙ j.0 (sym (any_mapped x before here (λ k q. subst (λ l. member k l ≡ true) e (member-left k before (x ∷ todo) q))) ∙ h),
    subst (λ l. Joined same_group (f x) l (map f todo)) (map-append f before (x ∷ [])) (joined_mapped x (before ++ (x ∷ [])) todo (append_assoc before (x ∷ []) todo ∙ e) here j.1),
  )
    where
      here : member x o ≡ true
      here = subst (λ l. member x l ≡ true) e (member_right x before (x ∷ todo) (member_head x todo))

together_mapped : (f : ℕ → LutNode) (R : ℕ → ℕ → Bool) (o : List ℕ) → ((i j : ℕ) → member i o ≡ true → member j o ≡ true → same_group (f i) (f j) ≡ R i j)
    → Joined R 0 [] o → Grouped (map f o)
unfolding Joined
together_mapped f R [] same j = tt
together_mapped f R (x ∷ o) same j =
    (λ h. absurd (any_none (same_group (f x)) h), joined_mapped f R (x ∷ o) same x (x ∷ []) o refl (member_head x o) j.1)

same_eqb : (o : List ℕ) (i j : ℕ) → member i o ≡ true → member j o ≡ true → eqb (place_in o i) (place_in o j) ≡ eqb i j
same_eqb o i j h k =
    ⊎_elim (λ (e : i ≡ j). eq-eqb (place_in o i) (place_in o j) (ap (place_in o) e) ∙ sym (eq-eqb i j e))
    (λ (n : i ≡ j → ⊥). ne_eqb (place_in o i) (place_in o j) (λ e. n (place_same o i j h k e)) ∙ sym (ne_eqb i j n))
    (eq-or-ne i j)

same_group_lem : (o : List ℕ) (x y : LutNode) → ((j : ℕ) → member j (needs x) ≡ true → member j o ≡ true) → ((j : ℕ) → member j (needs y) ≡ true → member j o ≡ true)
    → same_group (moved_node (place_in o) x) (moved_node (place_in o) y) ≡ same_group x y
unfolding same_group moved_node needs
same_group_lem o (Input a) y h k = refl
same_group_lem o (Linear c ts) y h k = refl
same_group_lem o (Bootstrap i t) (Input a) h k = refl
same_group_lem o (Bootstrap i t) (Linear c ts) h k = refl
same_group_lem o (Bootstrap i t) (Bootstrap j u) h k = same_eqb o i j (h i (member_head i [])) (k j (member_head j []))

pub regrouped_together : (w : Network) → Admissible w → Grouped (regrouped w).nodes
unfolding regrouped reordered order
regrouped_together w a =
    together_mapped (λ i. moved_node (place_in (order ns)) (node_at ns i)) (shares ns) (order ns) (λ i j h k. same_group_lem (order ns) (node_at ns i) (node_at ns j) (known i h) (known j k))
    (order_joined ns (length ns))
  where
    ns : List LutNode
    ns = w.nodes

    s : Sorted ns (length ns) (order ns)
    s = order-sorted (net_of w) ns a.nodes

    known : (i : ℕ) → member i (order ns) ≡ true → (j : ℕ) → member j (needs (node_at ns i)) ≡ true → member j (order ns) ≡ true
    known i h j m =
        let l = s.below i h in
        let e = pass_ordered (net_of w) ns a.nodes i l j m in
        s.all j (omega arith)

-- ---- Where they stand together the order is the old one.

any-node : (g : LutNode → Bool) (ns : List LutNode) (l : List ℕ) → any (λ j. g (node_at ns j)) l ≡ any g (map (node_at ns) l)
unfolding any
any-node g ns [] = refl
any-node g ns (j ∷ l) = ap (λ b. g (node_at ns j) || b) (any-node g ns l)

pub taken-numbers : (ns : List LutNode) (k : ℕ) → k ≤ length ns → map (node_at ns) (numbers k) ≡ take k ns
taken-numbers ns k h = numbered_nodes (λ x. x) k ns h ∙ map-id (take k ns)

behind-numbers : (ns : List LutNode) → Grouped ns → (k : ℕ) → k < length ns → behind (shares ns k) k (numbers k) ≡ numbers (suc k)
unfolding tabulate node_at
behind-numbers ns t k l = ⊎_elim (in_group k l) at-end (decide (any (shares ns k) (numbers k)))
  where
    at-end : any (shares ns k) (numbers k) ≡ false → behind (shares ns k) k (numbers k) ≡ numbers (suc k)
    at-end h = behind_none (shares ns k) k (numbers k) h ∙ sym (numbers_snoc k)

    in_group : (k : ℕ) → k < length ns → any (shares ns k) (numbers k) ≡ true → behind (shares ns k) k (numbers k) ≡ numbers (suc k)
    in_group zero l h = absurd (any_none (shares ns 0) h)
    in_group (suc k) l h =
        let q : any (same_group (node_at ns (suc k))) (take (suc k) ns) ≡ true =
        ap (any (same_group (node_at ns (suc k)))) (sym (taken-numbers ns (suc k) (omega arith))) ∙ sym (any-node (same_group (node_at ns (suc k))) ns (numbers (suc k))) ∙ h in
        ap (behind (shares ns (suc k)) (suc k)) (numbers_snoc k)
        ∙ behind-last (shares ns (suc k)) (suc k) (numbers k) k (joined_at same_group no_input no_input [] ns t k l q)
        ∙ sym (numbers_snoc (suc k) ∙ ap {B = List ℕ} (λ r. r ++ (suc k ∷ [])) (numbers_snoc k) ∙ append_assoc (numbers k) (k ∷ []) (suc k ∷ []))

together-order : (ns : List LutNode) → Grouped ns → (k : ℕ) → k ≤ length ns → order_up_to ns k ≡ numbers k
unfolding order_up_to tabulate
together-order ns t zero l = refl
together-order ns t (suc k) l = ap (behind (shares ns k) k) (together-order ns t k (omega arith)) ∙ behind-numbers ns t k l

-- ---- And nothing gets another number.

module _ (to : ℕ → ℕ) where
  terms_stay : (ts : List Term) → ((j : ℕ) → member j (sources ts) ≡ true → to j ≡ j) → map (moved_term to) ts ≡ ts
  unfolding sources moved_term
  terms_stay [] h = refl
  terms_stay (t ∷ ts) h =
      ap₂ {C = List Term} (λ j r. record { coef = t.coef; node = j } ∷ r) (h t.node (member_head t.node (sources ts)))
      (terms_stay ts (λ j m. h j (member-tail j t.node (sources ts) m)))

  pub node_stays : (x : LutNode) → ((j : ℕ) → member j (needs x) ≡ true → to j ≡ j) → moved_node to x ≡ x
  unfolding needs moved_node
  node_stays (Input a) h = refl
  node_stays (Linear c ts) h = ap (Linear c) (terms_stay ts h)
  node_stays (Bootstrap i t) h = ap (λ j. Bootstrap j t) (h i (member_head i []))

  nodes_stay : (ns : List LutNode) → ((k : ℕ) → k < length ns → (j : ℕ) → member j (needs (node_at ns k)) ≡ true → to j ≡ j) → map (moved_node to) ns ≡ ns
  unfolding node_at
  nodes_stay [] h = refl
  nodes_stay (x ∷ ns) h = ap₂ {C = List LutNode} (λ y r. y ∷ r) (node_stays x (h 0 (omega arith))) (nodes_stay ns (λ k l. h (suc k) (omega arith)))

  wire_stays : (w : Wire) (n : ℕ) → no_node n w ≡ false → ((j : ℕ) → j < n → to j ≡ j) → moved_wire to w ≡ w
  unfolding moved_wire no_node
  wire_stays (Const b) n e h = refl
  wire_stays (Node i) n e h = ap Node (h i (leb-false n i e))

  pub outputs_stay : (n : Net) (ns : List LutNode) (before os : List Output) → OutputsPass n ns before os → ((j : ℕ) → j < length ns → to j ≡ j) → map (moved_output to) os ≡ os
  unfolding OutputsPass moved_output
  outputs_stay n ns before [] p h = refl
  outputs_stay n ns before (o ∷ os) p h =
      ap₂ {C = List Output} (λ v r. record { name = o.name; wire = v } ∷ r) (wire_stays o.wire (length ns) (out_passes n ns before o p.0).earlier h)
      (outputs_stay n ns (before ++ (o ∷ [])) os p.1 h)

pub together-stays : (w : Network) → Admissible w → Grouped w.nodes → regrouped w ≡ w
unfolding regrouped reordered order
together-stays w a t =
    ap (λ o. reordered o w) (together-order ns t n (omega arith))
    ∙ ap₂ {C = Network} (λ ms os. record { p = w.p; m = w.m; norm = w.norm; nodes = ms; outputs = os })
    (numbered_nodes (moved_node (place_in (numbers n))) n ns (omega arith) ∙ ap (map (moved_node (place_in (numbers n)))) (take-length ns)
    ∙ nodes_stay (place_in (numbers n)) ns (λ k l j m. let e = pass_ordered (net_of w) ns a.nodes k l j m in place_number n j (omega arith)))
    (outputs_stay (place_in (numbers n)) (net_of w) ns [] w.outputs a.outputs (place_number n))
  where
    ns : List LutNode
    ns = w.nodes

    n : ℕ
    n = length ns
