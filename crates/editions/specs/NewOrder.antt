-- The new order of a network's nodes: each node once, the sources of each before it, the inputs in their places.
use Rattle.std.specs.Prelude.{◌≡◌, Bool, length, take}
use Rattle.std.proofs.Math.Path.{refl, sym, ap, subst}
use Rattle.std.proofs.Common.{◌∙◌, true≢false, eqb-true, length-take}
use Rattle.std.proofs.Math.Bool.{true, false}
use mathlib.Core.List.{List, [], ◌∷◌, ◌++◌, append_assoc, append-nil}
use Rattle.std.proofs.Math.Logic.{⊎_elim}
use Prim.Native.Nat.{ℕ, zero, suc, ◌+◌, ◌<◌, ◌≤◌}
use native.Mathlib.Omega.{arith}
use Rattle.std.proofs.lemmas.Bool.{not-false}
use Rattle.std.proofs.Math.ListN.{length-append}
use Rattle.laws.specs.Select.{any}
use Rattle.laws.specs.Tabulate.{tabulate, numbers, numbers_snoc}
use Rattle.laws.specs.Test.{if◌then◌otherwise◌, decide, lt_or_le, not_both}
use Rattle.rules.specs.Network.{LutNode, Input, Linear, Bootstrap, is_input, count, member, node_at}
use Rattle.rules.specs.NetworkText.{Net, NodeLine, all_inputs, ending, text_conditions, admission_conditions}
use Rattle.rules.specs.Regroup.{same_group, behind, order_up_to, order}
use Rattle.rules.specs.Store.{needs}
use Rattle.theorems.specs.Admissible.{Passes, NodesPass, pass_at}
use Rattle.theorems.specs.Counts.{count_most}
use Rattle.theorems.specs.EarlierNodes.{pass_ordered}
use Rattle.theorems.specs.Members.{member_head, member-tail, member_cons, member-left, member_right, member-either, member-one, no_member, numbers_below}
use Rattle.theorems.specs.NodesAt.{taken-node}
use Rattle.theorems.specs.Readings.{NoneMet}
use Rattle.editions.specs.Places.{not_member, Put, behind_none, behind_some}
use Rattle.editions.specs.Statements.{shares}

-- ---- The first of a list.

pub taken-length : {A : Type 0} (k : ℕ) (l : List A) → k ≤ length l → length (take k l) ≡ k
taken-length k l h = length-take k l ∙ omega arith

-- ---- The inputs come first.

all_counted : (f : LutNode → Bool) (xs : List LutNode) → count f xs ≡ length xs → (j : ℕ) → j < length xs → f (node_at xs j) ≡ true
unfolding count node_at
all_counted f [] e j l = absurd (omega arith)
all_counted f (x ∷ xs) e j l = by (f x) refl e j l (all_counted f xs)
  where
    by : (b : Bool) → f x ≡ b → (if b then 1 otherwise 0) + count f xs ≡ suc (length xs) → (j : ℕ) → j < suc (length xs)
        → (count f xs ≡ length xs → (j : ℕ) → j < length xs → f (node_at xs j) ≡ true) → f (node_at (x ∷ xs) j) ≡ true
    by false g e j l r = absurd (omega (arith, count_most f xs))
    by true g e zero l r = g
    by true g e (suc j) l r = r (omega arith) j (omega arith)

after-inputs : (n : Net) (before : List LutNode) (x : LutNode) → Passes n before [] (NodeLine x) → is_input x ≡ true → all_inputs before ≡ true
unfolding is_input Passes NoneMet admission_conditions text_conditions ending
after-inputs n before (Input a) p h = not-false (all_inputs before) p.0.1.0
after-inputs n before (Linear c ts) p h = absurd (true≢false (sym h))
after-inputs n before (Bootstrap i table) p h = absurd (true≢false (sym h))

inputs-first : (n : Net) (ns : List LutNode) → NodesPass n [] ns → (k : ℕ) → k < length ns → is_input (node_at ns k) ≡ true
    → (j : ℕ) → j < k → is_input (node_at ns j) ≡ true
unfolding all_inputs
inputs-first n ns p k l h j m =
    let e = after-inputs n (take k ns) (node_at ns k) (pass_at n [] ns p k l) h in
    ap is_input (sym (taken-node k j ns m))
    ∙ all_counted is_input (take k ns) (eqb-true (count is_input (take k ns)) (length (take k ns)) e) j (omega (arith, taken-length k ns (omega arith)))

-- ---- Tables of one node.

group_needs : (x y : LutNode) → same_group x y ≡ true → needs x ≡ needs y
unfolding same_group needs
group_needs (Input a) y h = absurd (true≢false (sym h))
group_needs (Linear c ts) y h = absurd (true≢false (sym h))
group_needs (Bootstrap i t) (Input a) h = absurd (true≢false (sym h))
group_needs (Bootstrap i t) (Linear c ts) h = absurd (true≢false (sym h))
group_needs (Bootstrap i t) (Bootstrap j u) h = ap {B = List ℕ} (λ k. k ∷ []) (eqb-true i j h)

pub group_no_input : (x y : LutNode) → same_group x y ≡ true → (is_input x ≡ false) × (is_input y ≡ false)
unfolding same_group is_input
group_no_input (Input a) y h = absurd (true≢false (sym h))
group_no_input (Linear c ts) y h = absurd (true≢false (sym h))
group_no_input (Bootstrap i t) (Input a) h = absurd (true≢false (sym h))
group_no_input (Bootstrap i t) (Linear c ts) h = absurd (true≢false (sym h))
group_no_input (Bootstrap i t) (Bootstrap j u) h = (refl, refl)

input_alone : (x : LutNode) (ns : List LutNode) (l : List ℕ) → is_input x ≡ true → any (λ j. same_group x (node_at ns j)) l ≡ false
unfolding is_input same_group any
input_alone (Input a) ns [] h = refl
input_alone (Input a) ns (j ∷ l) h = input_alone (Input a) ns l h
input_alone (Linear c ts) ns l h = absurd (true≢false (sym h))
input_alone (Bootstrap i t) ns l h = absurd (true≢false (sym h))

-- ---- Orders.

-- Number i may stand behind these.
pub record Next (ns : List LutNode) (before : List ℕ) (i : ℕ) : Type 0 where
  pub within : i < length ns
  pub new : member i before ≡ false
  pub earlier : (j : ℕ) → member j (needs (node_at ns i)) ≡ true → member j before ≡ true
  pub inputs : is_input (node_at ns i) ≡ true → before ≡ numbers i

unfoldable pub Ordered : List LutNode → List ℕ → List ℕ → Type 0
Ordered ns before [] = Unit {0}
Ordered ns before (i ∷ is) = Next ns before i × Ordered ns (before ++ (i ∷ [])) is

module _ (ns : List LutNode) where
  ordered_join : (before a b : List ℕ) → Ordered ns before a → Ordered ns (before ++ a) b → Ordered ns before (a ++ b)
  unfolding Ordered
  ordered_join before [] b o q = rw append-nil at q
  ordered_join before (i ∷ a) b o q = (o.0, ordered_join (before ++ (i ∷ [])) a b o.1 (rw append_assoc q))

  ordered-front : (before a b : List ℕ) → Ordered ns before (a ++ b) → Ordered ns before a
  unfolding Ordered
  ordered-front before [] b o = tt
  ordered-front before (i ∷ a) b o = (o.0, ordered-front (before ++ (i ∷ [])) a b o.1)

  ordered-back : (before a b : List ℕ) → Ordered ns before (a ++ b) → Ordered ns (before ++ a) b
  unfolding Ordered
  ordered-back before [] b o = rw append-nil o
  ordered-back before (i ∷ a) b o = rw (← append_assoc before (i ∷ []) a) (ordered-back (before ++ (i ∷ [])) a b o.1)

  -- more numbers before, none of them among these, and no inputs among these
  ordered_widened : (before after todo : List ℕ) → ((j : ℕ) → member j before ≡ true → member j after ≡ true)
      → ((j : ℕ) → member j todo ≡ true → member j after ≡ true → member j before ≡ true)
      → ((j : ℕ) → member j todo ≡ true → is_input (node_at ns j) ≡ false) → Ordered ns before todo → Ordered ns after todo
  unfolding Ordered
  ordered_widened before after [] up back out o = tt
  ordered_widened before after (i ∷ todo) up back out o = (
    record {
      within = o.0.within;
      new = not_member i after (λ h. not_both (member i before) (back i (member_head i todo) h) o.0.new);
      earlier = λ j h. up j (o.0.earlier j h);
      inputs = λ h. absurd (not_both (is_input (node_at ns i)) h (out i (member_head i todo)));
    },
    ordered_widened (before ++ (i ∷ [])) (after ++ (i ∷ [])) todo
        (λ j h. ⊎_elim (λ e. member-left j after (i ∷ []) (up j e)) (λ e. member_right j after (i ∷ []) e) (member-either j before (i ∷ []) h))
        (λ j h m. ⊎_elim (λ e. member-left j before (i ∷ []) (back j (member-tail j i todo h) e)) (λ e. member_right j before (i ∷ []) e) (member-either j after (i ∷ []) m))
        (λ j h. out j (member-tail j i todo h)) o.1,
  )

  -- no input comes behind a node that is none
  no_later_input : (first : (k : ℕ) → k < length ns → is_input (node_at ns k) ≡ true → (j : ℕ) → j < k → is_input (node_at ns j) ≡ true)
      → (before todo : List ℕ) (y : ℕ) → member y before ≡ true → is_input (node_at ns y) ≡ false → Ordered ns before todo
      → (j : ℕ) → member j todo ≡ true → is_input (node_at ns j) ≡ false
  unfolding Ordered
  no_later_input first before [] y m e o j h = absurd (no_member j h)
  no_later_input first before (i ∷ todo) y m e o j h =
      ⊎_elim (λ (q : j ≡ i). rw q (here (is_input (node_at ns i)) refl))
      (λ (q : member j todo ≡ true). no_later_input first (before ++ (i ∷ [])) todo y (member-left y before (i ∷ []) m) e o.1 j q)
      (member_cons j i todo h)
    where
      here : (b : Bool) → is_input (node_at ns i) ≡ b → is_input (node_at ns i) ≡ false
      here false f = f
      here true f =
          let l = numbers_below i y (rw (o.0.inputs f) at m) in
          absurd (not_both (is_input (node_at ns y)) (first i o.0.within f y l) e)

-- The first k numbers, in an order.
pub record Sorted (ns : List LutNode) (k : ℕ) (o : List ℕ) : Type 0 where
  pub ordered : Ordered ns [] o
  pub long : length o ≡ k
  pub below : (j : ℕ) → member j o ≡ true → j < k
  pub all : (j : ℕ) → j < k → member j o ≡ true

module _ (n : Net) (ns : List LutNode) (p : NodesPass n [] ns) where
  inputs-order : (k : ℕ) → ((j : ℕ) → j < k → is_input (node_at ns j) ≡ true) → order_up_to ns k ≡ numbers k
  unfolding order_up_to tabulate
  inputs-order zero h = refl
  inputs-order (suc k) h =
      behind_none _ k (order_up_to ns k) (input_alone (node_at ns k) ns (order_up_to ns k) (h k (omega arith)))
      ∙ ap (λ l. l ++ (k ∷ [])) (inputs-order k (λ j l. h j (omega arith))) ∙ sym (numbers_snoc k)

  -- one more, somewhere among those before it
  sorted_put : (k : ℕ) (a b : List ℕ) → k < length ns → Sorted ns k (a ++ b) → Next ns a k → Ordered ns (a ++ (k ∷ [])) b → Sorted ns (suc k) (a ++ (k ∷ b))
  unfolding Ordered
  sorted_put k a b l s x o =
      record {
        ordered = ordered_join ns [] a (k ∷ b) (ordered-front ns [] a b s.ordered) (x, o);
        long = omega (arith, s.long, length-append a b, length-append a (k ∷ b));
        below = λ j h. ⊎_elim (λ (e : member j a ≡ true). let r = s.below j (member-left j a b e) in omega arith) (later j) (member-either j a (k ∷ b) h);
        all = λ j h. ⊎_elim (λ (e : j < k). old j (s.all j e)) (λ (e : k ≤ j). let q : k ≡ j = omega arith in member_right j a (k ∷ b) (subst (λ i. member i (k ∷ b) ≡ true) q (member_head k b))) (lt_or_le j k);
      }
    where
      later : (j : ℕ) → member j (k ∷ b) ≡ true → j < suc k
      later j h =
          ⊎_elim (λ (e : j ≡ k). omega arith) (λ (e : member j b ≡ true). let r = s.below j (member_right j a b e) in omega arith) (member_cons j k b h)

      old : (j : ℕ) → member j (a ++ b) ≡ true → member j (a ++ (k ∷ b)) ≡ true
      old j h =
          ⊎_elim (λ (e : member j a ≡ true). member-left j a (k ∷ b) e) (λ (e : member j b ≡ true). member_right j a (k ∷ b) (member-tail j k b e)) (member-either j a b h)

  module _ (k : ℕ) (l : k < length ns) (s : Sorted ns k (order_up_to ns k)) where
    fresh : member k (order_up_to ns k) ≡ false
    fresh = not_member k (order_up_to ns k) (λ h. let r = s.below k h in omega arith)

    at-end : any (shares ns k) (order_up_to ns k) ≡ false → Sorted ns (suc k) (behind (shares ns k) k (order_up_to ns k))
    unfolding Ordered
    at-end e =
        subst (Sorted ns (suc k)) (sym (behind_none (shares ns k) k (order_up_to ns k) e))
        (sorted_put k (order_up_to ns k) [] l (rw append-nil s)
        (record {
          within = l;
          new = fresh;
          earlier = λ j h. s.all j (pass_ordered n ns p k l j h);
          inputs = λ h. inputs-order k (inputs-first n ns p k l h);
        })
        tt)

    in_group : Put (shares ns k) k (order_up_to ns k) → Sorted ns (suc k) (behind (shares ns k) k (order_up_to ns k))
    unfolding Ordered
    in_group q =
        subst (Sorted ns (suc k)) (append_assoc q.front (q.at ∷ []) (k ∷ q.back) ∙ sym q.is)
        (sorted_put k a q.back l t
        (record {
          within = l;
          new = not_member k a (λ h. not_both (member k (order_up_to ns k)) (rw (q.was, ← append_assoc q.front (q.at ∷ []) q.back) (member-left k a q.back h)) fresh);
          earlier = λ j h. member-left j q.front (q.at ∷ []) (first.earlier j (rw (group_needs _ _ q.holds) at h));
          inputs = λ h. absurd (not_both (is_input (node_at ns k)) h (group_no_input _ _ q.holds).0);
        })
        (ordered_widened ns a (a ++ (k ∷ [])) q.back (λ j h. member-left j a (k ∷ []) h)
        (λ j h m. ⊎_elim (λ e. e) (λ (e : member j (k ∷ []) ≡ true). let r = t.below j (member_right j a q.back h) in let x = member-one j k e in absurd (omega arith)) (member-either j a (k ∷ []) m))
        (no_later_input ns (inputs-first n ns p) a q.back q.at (member_right q.at q.front (q.at ∷ []) (member_head q.at [])) (group_no_input _ _ q.holds).1 rest)
        rest))
      where
        a : List ℕ
        a = q.front ++ (q.at ∷ [])

        t : Sorted ns k (a ++ q.back)
        t = subst (Sorted ns k) (q.was ∙ sym (append_assoc q.front (q.at ∷ []) q.back)) s

        rest : Ordered ns a q.back
        rest = ordered-back ns [] a q.back t.ordered

        first : Next ns q.front q.at
        first = (ordered-back ns [] q.front (q.at ∷ q.back) (subst (Ordered ns []) q.was s.ordered)).0

  pub sorted_up_to : (k : ℕ) → k ≤ length ns → Sorted ns k (order_up_to ns k)
  unfolding order_up_to Ordered
  sorted_up_to zero l = record { ordered = tt; long = refl; below = λ j h. absurd (no_member j h); all = λ j h. absurd (omega arith) }
  sorted_up_to (suc k) l =
      let s = sorted_up_to k (omega arith) in
      ⊎_elim (λ (e : any (shares ns k) (order_up_to ns k) ≡ true). in_group k l s (behind_some (shares ns k) k (order_up_to ns k) e)) (at-end k l s)
      (decide (any (shares ns k) (order_up_to ns k)))

  pub order-sorted : Sorted ns (length ns) (order ns)
  unfolding order
  order-sorted = sorted_up_to (length ns) (omega arith)
