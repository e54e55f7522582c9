-- A regrouped network has the same statistics: its nodes are the same but for order and numbers (document 02, S-11).
use Rattle.std.specs.Prelude.{◌≡◌, Bool, false, ◌||◌, ◌⊎◌, eqb, length, get_or}
use Rattle.std.proofs.Math.Path.{refl, sym, ap, ap₂}
use Rattle.std.proofs.Common.{subst, ◌∙◌, inl, inr, arith, eq-eqb, ne_eqb}
use Rattle.std.proofs.Math.Bool.{true}
use mathlib.Core.List.{List, [], ◌∷◌, ◌++◌, map, map-map, append_assoc, append-nil}
use Rattle.std.proofs.Math.Logic.{⊎_elim}
use Prim.Native.Nat.{ℕ, zero, suc, ◌+◌, ◌<◌, max}
use Rattle.std.proofs.lemmas.List.{length-map}
use Rattle.std.proofs.Math.Seq.{take-length}
use Rattle.laws.specs.Select.{any}
use Rattle.laws.specs.Tabulate.{tabulate, map-tabulate, numbers, numbers_snoc}
use Rattle.laws.specs.Test.{if◌then◌otherwise◌, decide, eq-or-ne, or_swap}
use Rattle.laws.specs.Permuted.{Perm, same, one, two, then_perm, perm_put, perm_back, perm_map}
use Rattle.rules.specs.Network.{LutNode, Input, Linear, Bootstrap, Network, is_input, is_linear, is_bootstrap, table_length, node_norm, count, largest, boot_sources, member, different, stats, node_at, weight_of, depths, depth, largest_depth, node_centre, has_centre}
use Rattle.rules.specs.Regroup.{behind, order_up_to, order, place_in, moved_node, moved_output, reordered, regrouped}
use Rattle.rules.specs.Store.{needs}
use Rattle.theorems.specs.Admissible.{net_of, Admissible}
use Rattle.theorems.specs.Depths.{depths-length}
use Rattle.theorems.specs.EarlierNodes.{Ordered, pass_ordered}
use Rattle.theorems.specs.Members.{member_head, member-tail, member_cons, no_member}
use Rattle.editions.specs.Places.{place_same, Put, behind_none, behind_some}
use Rattle.editions.specs.NewOrder.{Sorted, order-sorted}
use Rattle.editions.specs.Moved.{same_input, same_linear, same_norm, same_weight}
use Rattle.editions.specs.Together.{taken-numbers}
use Rattle.editions.specs.MovedPasses.{front_placed}
use Rattle.editions.specs.MovedDepths.{new-depths}
use Rattle.editions.specs.Statements.{shares}

-- ---- The measures do not see the order.

count_perm : (f : LutNode → Bool) {a b : List LutNode} → Perm a b → count f a ≡ count f b
unfolding count
count_perm f same = refl
count_perm f (one x p) = ap (λ k. (if f x then 1 otherwise 0) + k) (count_perm f p)
count_perm f (two {l = l} x y) = omega arith
count_perm f (then_perm p q) = count_perm f p ∙ count_perm f q

largest_perm : {A : Type 0} (f : A → ℕ) {a b : List A} → Perm a b → largest f a ≡ largest f b
unfolding largest
largest_perm f same = refl
largest_perm f (one x p) = ap (max (f x)) (largest_perm f p)
largest_perm f (two {l = l} x y) = omega arith
largest_perm f (then_perm p q) = largest_perm f p ∙ largest_perm f q

member_perm : (i : ℕ) {a b : List ℕ} → Perm a b → member i a ≡ member i b
unfolding member
member_perm i same = refl
member_perm i (one x p) = ap (λ b. eqb i x || b) (member_perm i p)
member_perm i (two {l = l} x y) = or_swap (eqb i x) (eqb i y) (member i l)
member_perm i (then_perm p q) = member_perm i p ∙ member_perm i q

member_here : (i j : ℕ) (l : List ℕ) → i ≡ j → member i (j ∷ l) ≡ true
unfolding member
member_here i j l e = rw (eq-eqb i j e)

member_there : (i j : ℕ) (l : List ℕ) → (i ≡ j → ⊥) → member i (j ∷ l) ≡ member i l
unfolding member
member_there i j l n = rw (ne_eqb i j n)

different_perm : {a b : List ℕ} → Perm a b → different a ≡ different b
unfolding different
different_perm same = refl
different_perm (one x p) = ap₂ (λ (m : Bool) k. (if m then 0 otherwise 1) + k) (member_perm x p) (different_perm p)
different_perm (two {l = l} x y) =
    ⊎_elim (λ (e : x ≡ y). rw (member_here x y l e, member_here y x l (sym e), e) refl) (λ (n : x ≡ y → ⊥). rw (member_there x y l n, member_there y x l (λ e. n (sym e))) (omega arith))
    (eq-or-ne x y)
different_perm (then_perm p q) = different_perm p ∙ different_perm q

sources-one : (x : LutNode) (a b : List LutNode) → Perm (boot_sources a) (boot_sources b) → Perm (boot_sources (x ∷ a)) (boot_sources (x ∷ b))
unfolding boot_sources
sources-one (Input n) a b p = p
sources-one (Linear c ts) a b p = p
sources-one (Bootstrap i t) a b p = one i p

sources_two : (x y : LutNode) (l : List LutNode) → Perm (boot_sources (x ∷ y ∷ l)) (boot_sources (y ∷ x ∷ l))
unfolding boot_sources
sources_two (Input n) (Input m) l = same
sources_two (Input n) (Linear d us) l = same
sources_two (Input n) (Bootstrap j u) l = same
sources_two (Linear c ts) (Input m) l = same
sources_two (Linear c ts) (Linear d us) l = same
sources_two (Linear c ts) (Bootstrap j u) l = same
sources_two (Bootstrap i t) (Input m) l = same
sources_two (Bootstrap i t) (Linear d us) l = same
sources_two (Bootstrap i t) (Bootstrap j u) l = two i j

sources_perm : {a b : List LutNode} → Perm a b → Perm (boot_sources a) (boot_sources b)
sources_perm same = same
sources_perm (one {a = a} {b = b} x p) = sources-one x a b (sources_perm p)
sources_perm (two {l = l} x y) = sources_two x y l
sources_perm (then_perm p q) = then_perm (sources_perm p) (sources_perm q)

-- ---- The new order has every number.

-- one more number, anywhere, is one more at the end
perm_next : (k : ℕ) (o a b : List ℕ) → o ≡ a ++ b → Perm o (numbers k) → Perm (a ++ (k ∷ b)) (numbers (suc k))
perm_next k o a b e p =
    then_perm (perm_put a k b)
    (subst (λ l. Perm (k ∷ l) (numbers (suc k))) e
    (then_perm (one k p) (subst (Perm (k ∷ numbers k)) (sym (numbers_snoc k)) (subst (λ l. Perm (k ∷ l) (numbers k ++ (k ∷ []))) (append-nil (numbers k)) (perm_back (numbers k) k [])))))

order_perm : (ns : List LutNode) (k : ℕ) → Perm (order_up_to ns k) (numbers k)
unfolding order_up_to tabulate
order_perm ns zero = same
order_perm ns (suc k) =
    let p = order_perm ns k in
    ⊎_elim (λ (h : any (shares ns k) (order_up_to ns k) ≡ true). in_group p (behind_some (shares ns k) k (order_up_to ns k) h))
    (λ (h : any (shares ns k) (order_up_to ns k) ≡ false).
    subst (λ l. Perm l (numbers (suc k))) (sym (behind_none (shares ns k) k (order_up_to ns k) h)) (perm_next k (order_up_to ns k) (order_up_to ns k) [] (sym (append-nil (order_up_to ns k))) p))
    (decide (any (shares ns k) (order_up_to ns k)))
  where
    in_group : Perm (order_up_to ns k) (numbers k) → Put (shares ns k) k (order_up_to ns k) → Perm (behind (shares ns k) k (order_up_to ns k)) (numbers (suc k))
    in_group p q =
        subst (λ l. Perm l (numbers (suc k))) (append_assoc q.front (q.at ∷ []) (k ∷ q.back) ∙ sym q.is)
        (perm_next k (order_up_to ns k) (q.front ++ (q.at ∷ [])) q.back (q.was ∙ sym (append_assoc q.front (q.at ∷ []) q.back)) p)

numbers_perm : (ns : List LutNode) → Perm (order ns) (numbers (length ns))
unfolding order
numbers_perm ns = order_perm ns (length ns)

-- the nodes in their new order
nodes_perm : (ns : List LutNode) → Perm (map (node_at ns) (order ns)) ns
nodes_perm ns = subst (Perm (map (node_at ns) (order ns))) (taken-numbers ns (length ns) (omega arith) ∙ take-length ns) (perm_map (node_at ns) (numbers_perm ns))

-- ---- Nor do they see the numbers.

module _ (to : ℕ → ℕ) where
  count_moved : (f : LutNode → Bool) → ((x : LutNode) → f (moved_node to x) ≡ f x) → (xs : List LutNode) → count f (map (moved_node to) xs) ≡ count f xs
  unfolding count
  count_moved f h [] = refl
  count_moved f h (x ∷ xs) = ap₂ (λ (b : Bool) k. (if b then 1 otherwise 0) + k) (h x) (count_moved f h xs)

  largest_moved : (f : LutNode → ℕ) → ((x : LutNode) → f (moved_node to x) ≡ f x) → (xs : List LutNode) → largest f (map (moved_node to) xs) ≡ largest f xs
  unfolding largest
  largest_moved f h [] = refl
  largest_moved f h (x ∷ xs) = ap₂ max (h x) (largest_moved f h xs)

  same_boot : (x : LutNode) → is_bootstrap (moved_node to x) ≡ is_bootstrap x
  unfolding is_bootstrap moved_node
  same_boot (Input a) = refl
  same_boot (Linear c ts) = refl
  same_boot (Bootstrap i t) = refl

  same_table : (x : LutNode) → table_length (moved_node to x) ≡ table_length x
  unfolding table_length moved_node
  same_table (Input a) = refl
  same_table (Linear c ts) = refl
  same_table (Bootstrap i t) = refl

  same_centre : (P k : ℕ) (x : LutNode) → has_centre P k (moved_node to x) ≡ has_centre P k x
  unfolding has_centre node_centre is_bootstrap moved_node
  same_centre P k (Input a) = refl
  same_centre P k (Linear c ts) = refl
  same_centre P k (Bootstrap i t) = refl

  sources_moved : (xs : List LutNode) → boot_sources (map (moved_node to) xs) ≡ map to (boot_sources xs)
  unfolding boot_sources moved_node
  sources_moved [] = refl
  sources_moved (Input a ∷ xs) = sources_moved xs
  sources_moved (Linear c ts ∷ xs) = sources_moved xs
  sources_moved (Bootstrap i t ∷ xs) = ap {B = List ℕ} (λ l. to i ∷ l) (sources_moved xs)

  module _ (known : ℕ → Type 0) (apart : (i j : ℕ) → known i → known j → to i ≡ to j → i ≡ j) where
    member_moved : (i : ℕ) (l : List ℕ) → known i → ((j : ℕ) → member j l ≡ true → known j) → member (to i) (map to l) ≡ member i l
    member_moved i [] h w = unfold member in refl
    member_moved i (j ∷ l) h w =
        let r = member_moved i l h (λ k m. w k (member-tail k j l m)) in
        ⊎_elim (λ (e : i ≡ j). member_here (to i) (to j) (map to l) (ap to e) ∙ sym (member_here i j l e))
        (λ (n : i ≡ j → ⊥). member_there (to i) (to j) (map to l) (λ e. n (apart i j h (w j (member_head j l)) e)) ∙ r ∙ sym (member_there i j l n))
        (eq-or-ne i j)

    different_moved : (l : List ℕ) → ((j : ℕ) → member j l ≡ true → known j) → different (map to l) ≡ different l
    unfolding different
    different_moved [] w = refl
    different_moved (i ∷ l) w =
        let later : (j : ℕ) → member j l ≡ true → known j = λ k m. w k (member-tail k i l m) in
        ap₂ (λ (b : Bool) k. (if b then 0 otherwise 1) + k) (member_moved i l (w i (member_head i l)) later) (different_moved l later)

-- ---- Norms, by the sources with their new numbers.

module _ (to : ℕ → ℕ) (ms ns : List LutNode) where
  same_node-norm : (x : LutNode) → ((j : ℕ) → member j (needs x) ≡ true → node_at ms (to j) ≡ moved_node to (node_at ns j)) → node_norm ms (moved_node to x) ≡ node_norm ns x
  unfolding node_norm weight_of moved_node needs
  same_node-norm (Input a) h = refl
  same_node-norm (Linear c ts) h = same_norm to ms ns ts (λ j m. ap weight_of (h j m) ∙ same_weight to (node_at ns j))
  same_node-norm (Bootstrap i t) h = refl

-- measures that are alike on each of these numbers
largest_alike : {A : Type 0} (f g : A → ℕ) (to from : ℕ → A) (l : List ℕ) → ((i : ℕ) → member i l ≡ true → f (to i) ≡ g (from i)) → largest f (map to l) ≡ largest g (map from l)
unfolding largest
largest_alike f g to from [] h = refl
largest_alike f g to from (i ∷ l) h = ap₂ max (h i (member_head i l)) (largest_alike f g to from l (λ j m. h j (member-tail j i l m)))

-- ---- Depths.

listed : (l : List ℕ) → l ≡ tabulate (length l) (λ i. get_or l i 0)
unfolding tabulate
listed [] = refl
listed (n ∷ l) = ap {B = List ℕ} (λ r. n ∷ r) (listed l)

depths-listed : (ns : List LutNode) → depths ns ≡ map (depth ns) (numbers (length ns))
unfolding depth
depths-listed ns =
    listed (depths ns) ∙ ap (λ n. tabulate n (λ i. get_or (depths ns) i 0)) (depths-length ns) ∙ sym (map-tabulate (depth ns) (length ns) (λ i. i))

-- ---- The statistics.

sources_are : (x : LutNode) (xs : List LutNode) (i : ℕ) → member i (boot_sources (x ∷ xs)) ≡ true → (member i (needs x) ≡ true) ⊎ (member i (boot_sources xs) ≡ true)
unfolding boot_sources needs
sources_are (Input a) xs i m = inr m
sources_are (Linear c ts) xs i m = inr m
sources_are (Bootstrap j t) xs i m = ⊎_elim (λ (e : i ≡ j). inl (rw e (member_head j []))) (λ (e : member i (boot_sources xs) ≡ true). inr e) (member_cons i j (boot_sources xs) m)

source_within : (ns : List LutNode) (bound : ℕ) → ((k : ℕ) → k < length ns → (i : ℕ) → member i (needs (node_at ns k)) ≡ true → i < bound) → (i : ℕ) → member i (boot_sources ns) ≡ true → i < bound
unfolding node_at
source_within [] bound h i m = absurd (no_member i (unfold boot_sources in m))
source_within (x ∷ ns) bound h i m =
    ⊎_elim (λ (e : member i (needs x) ≡ true). h 0 (omega arith) i e) (λ (e : member i (boot_sources ns) ≡ true). source_within ns bound (λ k l. h (suc k) (omega arith)) i e)
    (sources_are x ns i m)

pub same_stats : (w : Network) → Admissible w → stats (regrouped w) ≡ stats w
unfolding stats regrouped reordered largest_depth
same_stats w a = λ t. record {
  inputs = counted is_input (same_input to) t;
  sums = counted is_linear (same_linear to) t;
  boots = counted is_bootstrap (same_boot to) t;
  sources = sourced t;
  longest = measured table_length (same_table to) t;
  norm = normed t;
  outputs = outs t;
  depth = deep t;
  centre0 = counted (has_centre w.p 0) (same_centre to w.p 0) t;
  centre1 = counted (has_centre w.p 1) (same_centre to w.p 1) t;
  centre2 = counted (has_centre w.p 2) (same_centre to w.p 2) t;
}
  where
    ns : List LutNode
    ns = w.nodes

    to : ℕ → ℕ
    to = place_in (order ns)

    xs : List LutNode
    xs = map (node_at ns) (order ns)

    s : Sorted ns (length ns) (order ns)
    s = order-sorted (net_of w) ns a.nodes

    new : ℕ → LutNode
    new i = moved_node to (node_at ns i)

    earlier : Ordered ns
    earlier = pass_ordered (net_of w) ns a.nodes

    -- what a node in the new order needs has its place there
    at : (i : ℕ) → member i (order ns) ≡ true → (j : ℕ) → member j (needs (node_at ns i)) ≡ true → node_at (map new (order ns)) (to j) ≡ new j
    at i h j m =
        let l = s.below i h in
        let e = earlier i l j m in
        (front_placed (net_of w) ns a.nodes (order ns) (order ns) [] (append-nil (order ns))).at j (s.all j (omega arith))

    normed : largest (node_norm (map new (order ns))) (map new (order ns)) ≡ largest (node_norm ns) ns
    normed =
        largest_alike (node_norm (map new (order ns))) (node_norm ns) new (node_at ns) (order ns) (λ i h. same_node-norm to (map new (order ns)) ns (node_at ns i) (at i h))
        ∙ largest_perm (node_norm ns) (nodes_perm ns)

    deep : largest_depth (map new (order ns)) ≡ largest_depth ns
    deep =
        ap (largest (λ d. d)) (new-depths ns earlier (order ns) s) ∙ largest_perm (λ d. d) (perm_map (depth ns) (numbers_perm ns)) ∙ ap (largest (λ d. d)) (sym (depths-listed ns))

    moved : map (λ i. moved_node to (node_at ns i)) (order ns) ≡ map (moved_node to) xs
    moved = sym (map-map (moved_node to) (node_at ns) (order ns))

    counted : (f : LutNode → Bool) → ((x : LutNode) → f (moved_node to x) ≡ f x) → count f (map (λ i. moved_node to (node_at ns i)) (order ns)) ≡ count f ns
    counted f h = ap (count f) moved ∙ count_moved to f h xs ∙ count_perm f (nodes_perm ns)

    measured : (f : LutNode → ℕ) → ((x : LutNode) → f (moved_node to x) ≡ f x) → largest f (map (λ i. moved_node to (node_at ns i)) (order ns)) ≡ largest f ns
    measured f h = ap (largest f) moved ∙ largest_moved to f h xs ∙ largest_perm f (nodes_perm ns)

    sourced : different (boot_sources (map (λ i. moved_node to (node_at ns i)) (order ns))) ≡ different (boot_sources ns)
    sourced =
        ap (λ l. different (boot_sources l)) moved ∙ ap different (sources_moved to xs)
        ∙ different_moved to (λ i. member i (order ns) ≡ true) (place_same (order ns)) (boot_sources xs)
        (λ j m. s.all j (source_within ns (length ns) (λ k l i h. let e = earlier k l i h in omega arith) j (sym (member_perm j (sources_perm (nodes_perm ns))) ∙ m)))
        ∙ different_perm (sources_perm (nodes_perm ns))

    outs : length (map (moved_output to) w.outputs) ≡ length w.outputs
    outs = length-map w.outputs (moved_output to)
