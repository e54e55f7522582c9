-- The depth of a node is given by those of its sources, which are earlier nodes, and stays as nodes come after it (document 02, S-7).
use Rattle.std.specs.Prelude.{◌≡◌, refl, true, List, [], ◌∷◌, ◌++◌, ℕ, zero, suc, ◌+◌, ◌≤◌, ◌<◌, max, length, get_or, All}
use Rattle.std.proofs.Common.{sym, ap, ap₂, ◌∙◌, arith, length-append}
use Rattle.std.proofs.Math.ListN.{get_or-append}
use Rattle.std.proofs.lemmas.List.{get_or_at}
use Rattle.std.proofs.lemmas.List.Elements.{All-head, All-tail}
use Rattle.rules.specs.Network.{Term, LutNode, Input, Linear, Bootstrap, member, node_at, largest, node_depth, depths_from, depths, depth, largest_depth}
use Rattle.rules.specs.NetworkText.{sources}
use Rattle.rules.specs.Store.{needs}
use Rattle.theorems.specs.EarlierNodes.{Ordered}
use Rattle.theorems.specs.Members.{member_head, member-tail}

-- ---- By the depths of its sources.

same_deepest : (f g : ℕ → ℕ) (ts : List Term) → ((j : ℕ) → member j (sources ts) ≡ true → f j ≡ g j)
    → largest (λ (t : Term). f t.node) ts ≡ largest (λ (t : Term). g t.node) ts
unfolding largest sources
same_deepest f g [] h = refl
same_deepest f g (t ∷ ts) h = ap₂ max (h t.node (member_head t.node (sources ts))) (same_deepest f g ts (λ j m. h j (member-tail j t.node (sources ts) m)))

pub same_depth : (f g : ℕ → ℕ) (x : LutNode) → ((j : ℕ) → member j (needs x) ≡ true → f j ≡ g j) → node_depth f x ≡ node_depth g x
unfolding node_depth needs
same_depth f g (Input a) h = refl
same_depth f g (Linear c ts) h = same_deepest f g ts h
same_depth f g (Bootstrap i table) h = ap (λ d. d + 1) (h i (member_head i []))

-- ---- In turn.

abbrev next_depth : List ℕ → LutNode → ℕ
next_depth before x = node_depth (λ i. get_or before i 0) x

depths-front : (before : List ℕ) (xs : List LutNode) (i : ℕ) → i < length before → get_or (depths_from before xs) i 0 ≡ get_or before i 0
unfolding depths_from
depths-front before [] i l = refl
depths-front before (x ∷ xs) i l =
    let d = next_depth before x in
    depths-front (before ++ (d ∷ [])) xs i (omega (arith, length-append before (d ∷ []))) ∙ get_or-append before (d ∷ []) 0 i l

depths_long : (before : List ℕ) (xs : List LutNode) → length (depths_from before xs) ≡ length before + length xs
unfolding depths_from
depths_long before [] = omega arith
depths_long before (x ∷ xs) =
    let d = next_depth before x in
    omega (arith, depths_long (before ++ (d ∷ [])) xs, length-append before (d ∷ []))

pub depths-length : (nodes : List LutNode) → length (depths nodes) ≡ length nodes
unfolding depths
depths-length nodes = omega (arith, depths_long [] nodes)

depth_in_turn : (before : List ℕ) (xs : List LutNode) (i k : ℕ) → i < length xs → k ≡ length before + i → ((j : ℕ) → member j (needs (node_at xs i)) ≡ true → j < k)
    → get_or (depths_from before xs) k 0 ≡ node_depth (λ j. get_or (depths_from before xs) j 0) (node_at xs i)
unfolding depths_from node_at
depth_in_turn before [] i k l e f = absurd (omega arith)
depth_in_turn before (x ∷ xs) zero k l e f =
    let d = next_depth before x in
    let m : length before ≡ k = omega arith in
    depths-front (before ++ (d ∷ [])) xs k (omega (arith, length-append before (d ∷ [])))
    ∙ get_or_at before d [] 0 k m
    ∙ same_depth (λ i. get_or before i 0) (λ j. get_or (depths_from (before ++ (d ∷ [])) xs) j 0) x
    (λ j h. let r = f j h in sym (depths-front before (x ∷ xs) j (omega arith)))
depth_in_turn before (x ∷ xs) (suc i) k l e f =
    let d = next_depth before x in
    depth_in_turn (before ++ (d ∷ [])) xs i k (omega arith) (omega (arith, length-append before (d ∷ []))) f

pub depth_is : (nodes : List LutNode) → Ordered nodes → (i : ℕ) → i < length nodes → depth nodes i ≡ node_depth (depth nodes) (node_at nodes i)
unfolding depth depths
depth_is nodes o i l = depth_in_turn [] nodes i i l (omega arith) (o i l)

-- ---- The nodes grow.

depths-append : (before : List ℕ) (xs ys : List LutNode) → depths_from before (xs ++ ys) ≡ depths_from (depths_from before xs) ys
unfolding depths_from
depths-append before [] ys = refl
depths-append before (x ∷ xs) ys = depths-append (before ++ (next_depth before x ∷ [])) xs ys

pub depth-stays : (nodes more : List LutNode) (i : ℕ) → i < length nodes → depth (nodes ++ more) i ≡ depth nodes i
unfolding depth depths
depth-stays nodes more i l =
    ap (λ d. get_or d i 0) (depths-append [] nodes more) ∙ depths-front (depths_from [] nodes) more i (omega (arith, depths_long [] nodes))

-- one more node has the depth that its sources give
pub depths_snoc : (nodes : List LutNode) (x : LutNode) → depths (nodes ++ (x ∷ [])) ≡ depths nodes ++ (node_depth (depth nodes) x ∷ [])
unfolding depth depths depths_from
depths_snoc nodes x = depths-append [] nodes (x ∷ [])

pub depth-new : (nodes : List LutNode) (x : LutNode) → depth (nodes ++ (x ∷ [])) (length nodes) ≡ node_depth (depth nodes) x
unfolding depth
depth-new nodes x =
    ap (λ l. get_or l (length nodes) 0) (depths_snoc nodes x) ∙ get_or_at (depths nodes) (node_depth (depth nodes) x) [] 0 (length nodes) (depths-length nodes)

-- ---- The largest.

most_at : (l : List ℕ) (i : ℕ) → get_or l i 0 ≤ largest (λ d. d) l
unfolding largest
most_at [] i = omega arith
most_at (n ∷ l) zero = omega arith
most_at (n ∷ l) (suc i) = let r = most_at l i in omega arith

pub depth_most : (nodes : List LutNode) (i : ℕ) → depth nodes i ≤ largest_depth nodes
unfolding depth largest_depth
depth_most nodes i = most_at (depths nodes) i

pub largest-append : {A : Type 0} (f : A → ℕ) (a b : List A) → largest f (a ++ b) ≡ max (largest f a) (largest f b)
unfolding largest
largest-append f [] b = omega arith
largest-append f (x ∷ a) b = let r = largest-append f a b in omega arith

-- the largest is within what each is within
pub largest_within : {A : Type 0} (f : A → ℕ) (n : ℕ) (l : List A) → All (λ x. f x ≤ n) l → largest f l ≤ n
unfolding largest
largest_within f n [] h = omega arith
largest_within f n (x ∷ l) h = omega (arith, All-head (λ x. f x ≤ n) x l h, largest_within f n l (All-tail (λ x. f x ≤ n) x l h))

pub largest_more : {A : Type 0} (f : A → ℕ) (l : List A) (x : A) → largest f (l ++ (x ∷ [])) ≡ max (largest f l) (f x)
unfolding largest
largest_more f [] x = omega arith
largest_more f (y ∷ l) x = let r = largest_more f l x in omega arith
