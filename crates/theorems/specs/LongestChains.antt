-- The depth of a node is the greatest number of `boot` nodes on a chain that ends in it (document 02, S-7: "It equals the longest chain in the network").
use Rattle.std.specs.Prelude.{◌≡◌, true, ◌⊎◌, ℕ, zero, suc, ◌+◌, ◌≤◌, ◌<◌, max, length, get_or}
use Rattle.std.proofs.Math.Path.{refl, ap}
use Rattle.std.proofs.Common.{sym, subst, ◌∙◌, true≢false, inl, inr}
use mathlib.Core.List.{List, [], ◌∷◌, ◌++◌}
use Rattle.std.proofs.Math.Logic.{⊎_elim}
use native.Mathlib.Omega.{arith}
use Rattle.laws.specs.Test.{if◌then◌otherwise◌, lt_or_le}
use Rattle.rules.specs.declared.Stats.{Stats}
use Rattle.rules.specs.Admission.{admitted, admission}
use Rattle.rules.specs.Edition2.{read_either}
use Rattle.rules.specs.Form.{Good}
use Rattle.rules.specs.Network.{Term, LutNode, Input, Linear, Bootstrap, Network, is_bootstrap, member, node_at, largest, node_depth, depths_from, depths, depth, largest_depth, stats}
use Rattle.rules.specs.NetworkText.{sources}
use Rattle.rules.specs.Store.{needs}
use Rattle.theorems.specs.Admissible.{net_of}
use Rattle.theorems.specs.AdmissionExact.{statistics_recounted}
use Rattle.theorems.specs.Admissible2.{either_admissible}
use Rattle.theorems.specs.Depths.{depths-length, depth_is, depth_most}
use Rattle.theorems.specs.EarlierNodes.{Ordered, pass_ordered}
use Rattle.theorems.specs.Members.{member_head, member-tail, member_cons}

-- ---- The statement.

-- A chain that ends in node i: a list of nodes, each a source of the next, the last of them i.
unfoldable pub Chain : List LutNode → List ℕ → ℕ → Type 0
Chain nodes [] i = ⊥
Chain nodes (j ∷ []) i = j ≡ i
Chain nodes (j ∷ k ∷ l) i = (member j (needs (node_at nodes k)) ≡ true) × Chain nodes (k ∷ l) i

-- How many of these nodes are `boot` nodes.
unfoldable pub boots_on : List LutNode → List ℕ → ℕ
boots_on nodes [] = 0
boots_on nodes (i ∷ l) = (if is_bootstrap (node_at nodes i) then 1 otherwise 0) + boots_on nodes l

-- d is the greatest number of `boot` nodes on a chain that ends in node i.
pub record LongestChain (nodes : List LutNode) (i d : ℕ) : Type 0 where
  pub no_longer : (l : List ℕ) → Chain nodes l i → boots_on nodes l ≤ d
  pub chain : List ℕ
  pub ends : Chain nodes chain i
  pub as_long : boots_on nodes chain ≡ d

-- d is the greatest number of `boot` nodes on any chain, 0 where there is no node.
pub record LongestOfAll (nodes : List LutNode) (d : ℕ) : Type 0 where
  pub no_longer : (l : List ℕ) (i : ℕ) → i < length nodes → Chain nodes l i → boots_on nodes l ≤ d
  pub as_long : 0 < length nodes → (i : ℕ) × (i < length nodes) × LongestChain nodes i d
  pub none : length nodes ≡ 0 → d ≡ 0

-- A text that is admitted, s its statistics: of each of its nodes the depth is the longest chain that ends in it, and the statistics have the longest of all.
pub record DepthExact (text : List ℕ) (s : Stats) : Type 0 where
  pub network : Network
  pub read : read_either text ≡ Good network
  pub each : (i : ℕ) → i < length network.nodes → LongestChain network.nodes i (depth network.nodes i)
  pub shown : LongestOfAll network.nodes s.depth

-- ---- The largest of a sum's sources.

deepest_least : (f : ℕ → ℕ) (ts : List Term) (j : ℕ) → member j (sources ts) ≡ true → f j ≤ largest (λ (t : Term). f t.node) ts
unfolding largest sources member
deepest_least f [] j h = absurd (true≢false (sym h))
deepest_least f (t ∷ ts) j h =
    ⊎_elim (λ (e : j ≡ t.node). omega (arith, ap f e)) (λ (m : member j (sources ts) ≡ true). let r = deepest_least f ts j m in omega arith) (member_cons j t.node (sources ts) h)

-- it is one of theirs, or 0
pub deepest_one : (f : ℕ → ℕ) (ts : List Term)
    → (largest (λ (t : Term). f t.node) ts ≡ 0) ⊎ ((j : ℕ) × (member j (sources ts) ≡ true) × (f j ≡ largest (λ (t : Term). f t.node) ts))
unfolding largest sources
deepest_one f [] = inl refl
deepest_one f (t ∷ ts) = ⊎_elim (λ (l : rest < f t.node). inr (t.node, member_head t.node (sources ts), omega arith)) (λ (l : f t.node ≤ rest). by l (deepest_one f ts)) (lt_or_le rest (f t.node))
  where
    rest : ℕ
    rest = largest (λ (u : Term). f u.node) ts

    by : f t.node ≤ rest → (rest ≡ 0) ⊎ ((j : ℕ) × (member j (sources ts) ≡ true) × (f j ≡ rest))
        → (max (f t.node) rest ≡ 0) ⊎ ((j : ℕ) × (member j (t.node ∷ sources ts) ≡ true) × (f j ≡ max (f t.node) rest))
    by l (inl e) = inl (omega arith)
    by l (inr r) = let e = r.2 in inr (r.0, member-tail r.0 t.node (sources ts) r.1, omega arith)

-- ---- One link.

-- 1 for a `boot` node
abbrev pub boot_at : List LutNode → ℕ → ℕ
boot_at nodes i = if is_bootstrap (node_at nodes i) then 1 otherwise 0

module _ (nodes : List LutNode) (o : Ordered nodes) where
  -- a node is as deep as its source, a `boot` deeper by one
  link : (j : ℕ) (x : LutNode) → member j (needs x) ≡ true → depth nodes j + (if is_bootstrap x then 1 otherwise 0) ≤ node_depth (depth nodes) x
  unfolding needs node_depth is_bootstrap member
  link j (Input a) h = absurd (true≢false (sym h))
  link j (Linear c ts) h = let r = deepest_least (depth nodes) ts j h in omega arith
  link j (Bootstrap i table) h =
      ⊎_elim (λ (e : j ≡ i). omega (arith, ap (depth nodes) e)) (λ (m : member j [] ≡ true). absurd (true≢false (sym m))) (member_cons j i [] h)

  pub source_depth : (j k : ℕ) → k < length nodes → member j (needs (node_at nodes k)) ≡ true → depth nodes j + boot_at nodes k ≤ depth nodes k
  source_depth j k l h = omega (arith, depth_is nodes o k l, link j (node_at nodes k) h)

  pub boot_deep : (i : ℕ) → i < length nodes → boot_at nodes i ≤ depth nodes i
  boot_deep i l = omega (arith, depth_is nodes o i l, own (node_at nodes i))
    where
      own : (x : LutNode) → (if is_bootstrap x then 1 otherwise 0) ≤ node_depth (depth nodes) x
      own x = unfold is_bootstrap node_depth in (elim x as (λ x. (if is_bootstrap x then 1 otherwise 0) ≤ node_depth (depth nodes) x) [ Input a ↦ omega arith | Linear c ts ↦ omega arith | Bootstrap j table ↦ omega arith ])

  -- ---- No chain has more.

  -- a chain that begins with j: what lies behind j is at most what the end is deeper
  chain_most : (j : ℕ) (l : List ℕ) (i : ℕ) → i < length nodes → Chain nodes (j ∷ l) i → (j < length nodes) × (depth nodes j + boots_on nodes l ≤ depth nodes i)
  unfolding Chain boots_on
  chain_most j [] i m c = (omega arith, omega (arith, ap (depth nodes) c))
  chain_most j (k ∷ l) i m c =
      let r = chain_most k l i m c.1 in
      let b = o k r.0 j c.0 in
      (omega arith, omega (arith, source_depth j k r.0 c.0))

  chain_boots : (i : ℕ) → i < length nodes → (l : List ℕ) → Chain nodes l i → boots_on nodes l ≤ depth nodes i
  unfolding Chain boots_on
  chain_boots i m [] c = absurd c
  chain_boots i m (j ∷ l) c = let r = chain_most j l i m c in omega (arith, boot_deep j r.0)

  -- ---- One has as many.

  chain_more : (l : List ℕ) (j i : ℕ) → Chain nodes l j → member j (needs (node_at nodes i)) ≡ true → Chain nodes (l ++ (i ∷ [])) i
  unfolding Chain
  chain_more [] j i c h = absurd c
  chain_more (k ∷ []) j i c h = (rw c h, refl)
  chain_more (k ∷ m ∷ l) j i c h = (c.0, chain_more (m ∷ l) j i c.1 h)

  boots_more : (l : List ℕ) (i : ℕ) → boots_on nodes (l ++ (i ∷ [])) ≡ boots_on nodes l + boot_at nodes i
  unfolding boots_on
  boots_more [] i = omega arith
  boots_more (j ∷ l) i = omega (arith, boots_more l i)

  -- a chain with d boots
  abbrev Long : ℕ → ℕ → Type 0
  Long i d = (l : List ℕ) × Chain nodes l i × (boots_on nodes l ≡ d)

  grow : (j i d : ℕ) → Long j d → member j (needs (node_at nodes i)) ≡ true → Long i (d + boot_at nodes i)
  grow j i d c h = let e = c.2 in (c.0 ++ (i ∷ []), chain_more c.0 j i c.1 h, omega (arith, boots_more c.0 i))

  alone : (i : ℕ) → Long i (boot_at nodes i)
  unfolding Chain boots_on
  alone i = (i ∷ [], refl, omega arith)

  as_many : (i d e : ℕ) → Long i d → d ≡ e → Long i e
  as_many i d e c q = (c.0, c.1, c.2 ∙ q)

  -- by the chains to its sources
  chain_by : (i : ℕ) (x : LutNode) → node_at nodes i ≡ x → ((j : ℕ) → member j (needs x) ≡ true → Long j (depth nodes j)) → Long i (node_depth (depth nodes) x)
  unfolding needs node_depth is_bootstrap
  chain_by i (Input a) e r = as_many i (boot_at nodes i) 0 (alone i) (rw e refl)
  chain_by i (Linear c ts) e r = by (deepest_one (depth nodes) ts)
    where
      by : (largest (λ (t : Term). depth nodes t.node) ts ≡ 0) ⊎ ((j : ℕ) × (member j (sources ts) ≡ true) × (depth nodes j ≡ largest (λ (t : Term). depth nodes t.node) ts))
          → Long i (largest (λ (t : Term). depth nodes t.node) ts)
      by (inl z) = as_many i (boot_at nodes i) (largest (λ (t : Term). depth nodes t.node) ts) (alone i) (rw (e, z) refl)
      by (inr q) =
          let f = q.2 in
          as_many i (depth nodes q.0 + boot_at nodes i) (largest (λ (t : Term). depth nodes t.node) ts)
          (grow q.0 i (depth nodes q.0) (r q.0 q.1) (rw e q.1)) (rw e (omega arith))
  chain_by i (Bootstrap j table) e r =
      as_many i (depth nodes j + boot_at nodes i) (depth nodes j + 1) (grow j i (depth nodes j) (r j (member_head j [])) (rw e (member_head j []))) (rw e refl)

  chain-to : (m i : ℕ) → i < m → i < length nodes → Long i (depth nodes i)
  chain-to zero i l k = absurd (omega arith)
  chain-to (suc m) i l k =
      as_many i (node_depth (depth nodes) (node_at nodes i)) (depth nodes i)
      (chain_by i (node_at nodes i) refl (λ j h. let e = o i k j h in chain-to m j (omega arith) (omega arith))) (sym (depth_is nodes o i k))

  longest_chain : (i : ℕ) → i < length nodes → LongestChain nodes i (depth nodes i)
  longest_chain i l =
      let c = chain-to (suc i) i (omega arith) l in
      record { no_longer = chain_boots i l; chain = c.0; ends = c.1; as_long = c.2 }

-- ---- Of all nodes.

largest_found : (l : List ℕ) → 0 < length l → (i : ℕ) × (i < length l) × (get_or l i 0 ≡ largest (λ d. d) l)
unfolding largest
largest_found [] h = absurd (omega arith)
largest_found (n ∷ []) h = (0, omega arith, omega arith)
largest_found (n ∷ m ∷ l) h =
    let r = largest_found (m ∷ l) (omega arith) in
    ⊎_elim (λ (k : largest (λ d. d) (m ∷ l) < n). (0, omega arith, omega arith)) (λ (k : n ≤ largest (λ d. d) (m ∷ l)). (suc r.0, let b = r.1 in omega arith, let e = r.2 in e ∙ omega arith))
    (lt_or_le (largest (λ d. d) (m ∷ l)) n)

-- some node has the largest depth
pub deepest : (nodes : List LutNode) → 0 < length nodes → (i : ℕ) × (i < length nodes) × (depth nodes i ≡ largest_depth nodes)
unfolding depth largest_depth
deepest nodes h =
    let r = largest_found (depths nodes) (omega (arith, depths-length nodes)) in
    let b = r.1 in
    (r.0, omega (arith, depths-length nodes), r.2)

no-depth : (nodes : List LutNode) → length nodes ≡ 0 → largest_depth nodes ≡ 0
unfolding largest_depth depths depths_from largest
no-depth [] h = refl
no-depth (x ∷ nodes) h = absurd (omega arith)

longest_of_all : (nodes : List LutNode) → Ordered nodes → LongestOfAll nodes (largest_depth nodes)
longest_of_all nodes o =
    record {
      no_longer = λ l i h c. let r = chain_boots nodes o i h l c in omega (arith, depth_most nodes i);
      as_long = λ h. let d = deepest nodes h in (d.0, d.1, subst (LongestChain nodes d.0) d.2 (longest_chain nodes o d.0 d.1));
      none = no-depth nodes;
    }

pub depth_exact : (text : List ℕ) (s : Stats) → admission text ≡ admitted s → DepthExact text s
unfolding stats
depth_exact text s e =
    record {
      network = w;
      read = c.1;
      each = longest_chain w.nodes ordered;
      shown = subst (LongestOfAll w.nodes) (sym (ap (λ (t : Stats). t.depth) c.2)) (longest_of_all w.nodes ordered);
    }
  where
    c : (w : Network) × (read_either text ≡ Good w) × (s ≡ stats w)
    c = statistics_recounted text s e

    w : Network
    w = c.0

    ordered : Ordered w.nodes
    ordered = pass_ordered (net_of w) w.nodes (either_admissible text w c.1).nodes
