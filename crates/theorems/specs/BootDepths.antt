-- The boots of a network, what they wait for, and their depths (document 02, S-13).
use Rattle.std.specs.Prelude.{◌≡◌, refl, Bool, true, false, ◌⊎◌, List, [], ◌∷◌, ℕ, zero, suc, ◌+◌, ◌≤◌, ◌<◌, length, get_or, take}
use Rattle.std.proofs.Common.{sym, ap, ◌∙◌, true≢false, inl, inr, ⊎_elim, arith, length-append, take-suc}
use Rattle.std.proofs.Math.Seq.{take-length}
use Rattle.laws.specs.Select.{select, select-append}
use Rattle.laws.specs.Tabulate.{tabulate, numbers, numbers_snoc}
use Rattle.laws.specs.Test.{if◌then◌otherwise◌, lt_or_le}
use Rattle.rules.specs.Network.{Term, LutNode, Input, Linear, Bootstrap, is_linear, is_bootstrap, count, member, node_at, largest, node_depth, depths_from, depths, depth, largest_depth}
use Rattle.rules.specs.NetworkText.{sources, all_different}
use Rattle.rules.specs.Store.{needs}
use Rattle.rules.specs.Workers.{is_boot, boots, is_or_needs, waits_for}
use Rattle.theorems.specs.Counts.{count_snoc}
use Rattle.theorems.specs.Depths.{depth_is}
use Rattle.theorems.specs.EarlierNodes.{Sourced}
use Rattle.theorems.specs.LongestChains.{deepest_one, source_depth, boot_deep, deepest}
use Rattle.theorems.specs.Members.{member_head, member-one, select-member, selected, selected_different, below_numbers, numbers_different}
use Rattle.theorems.specs.NodesAt.{no_input, node_none}

-- ---- The numbers of the boots.

module _ (nodes : List LutNode) where
  pub boot_within : (b : ℕ) → is_boot nodes b ≡ true → b < length nodes
  unfolding is_boot is_bootstrap
  boot_within b h = ⊎_elim (λ (l : b < length nodes). l) (λ (l : length nodes ≤ b). absurd (true≢false (sym h ∙ ap is_bootstrap (node_none nodes b l)))) (lt_or_le b (length nodes))

  pub boot_member : (b : ℕ) → is_boot nodes b ≡ true → member b (boots nodes) ≡ true
  unfolding boots
  boot_member b h = select-member (is_boot nodes) b _ (below_numbers (length nodes) b (boot_within b h)) h

  pub member_boot : (b : ℕ) → member b (boots nodes) ≡ true → is_boot nodes b ≡ true
  unfolding boots
  member_boot b h = (selected (is_boot nodes) b _ h).1

  pub boots_different : all_different (boots nodes) ≡ true
  unfolding boots
  boots_different = selected_different (is_boot nodes) _ (numbers_different (length nodes))

  boots_to : (k : ℕ) → k ≤ length nodes → length (select (is_boot nodes) (numbers k)) ≡ count is_bootstrap (take k nodes)
  boots_to zero l = unfold tabulate select count in refl
  boots_to (suc k) l =
      let next : length (select (is_boot nodes) (numbers (suc k))) ≡ length (select (is_boot nodes) (numbers k)) + length (select (is_boot nodes) (k ∷ [])) =
      ap (λ ns. length (select (is_boot nodes) ns)) (numbers_snoc k) ∙ ap length (select-append (is_boot nodes) (numbers k) (k ∷ [])) ∙ length-append (select (is_boot nodes) (numbers k)) _ in
      omega (arith, next, boots_to k (omega arith), own (is_boot nodes k) refl, counted)
    where
      own : (b : Bool) → is_boot nodes k ≡ b → length (select (is_boot nodes) (k ∷ [])) ≡ (if b then 1 otherwise 0)
      own true e = unfold select in (rw e refl)
      own false e = unfold select in (rw e refl)

      counted : count is_bootstrap (take (suc k) nodes) ≡ count is_bootstrap (take k nodes) + (if is_boot nodes k then 1 otherwise 0)
      counted = unfold is_boot node_at in (ap (count is_bootstrap) (take-suc nodes k no_input l) ∙ count_snoc is_bootstrap (take k nodes) (get_or nodes k no_input))

  -- as many as the statistics count
  pub length-boots : length (boots nodes) ≡ count is_bootstrap nodes
  unfolding boots
  length-boots = boots_to (length nodes) (omega arith) ∙ ap (count is_bootstrap) (take-length nodes)

-- ---- What a boot waits for.

module _ (nodes : List LutNode) (s : Sourced nodes) where
  -- what node i is or needs is no later and no deeper
  is_or_needs_before : (i a : ℕ) → i < length nodes → member a (is_or_needs nodes i) ≡ true → (a ≤ i) × (depth nodes a ≤ depth nodes i)
  unfolding is_or_needs
  is_or_needs_before i a l h = by (is_boot nodes i) h
    where
      by : (t : Bool) → member a (if t then i ∷ [] otherwise needs (node_at nodes i)) ≡ true → (a ≤ i) × (depth nodes a ≤ depth nodes i)
      by true m = let e = member-one a i m in (omega arith, omega (arith, ap (depth nodes) e))
      by false m = let k = s.earlier i l a m in (omega arith, omega (arith, source_depth nodes s.earlier a i l m))

  -- A boot that another waits for: an earlier one, and less deep.
  pub record Waited (a b : ℕ) : Type 0 where
    pub boot : is_boot nodes a ≡ true
    pub before : a < b
    pub less_deep : depth nodes a < depth nodes b

  waited_by : (a b : ℕ) (x : LutNode) → b < length nodes → node_at nodes b ≡ x → member a (waits_for nodes x) ≡ true → Waited a b
  unfolding waits_for member needs is_bootstrap
  waited_by a b (Input n) l e h = absurd (true≢false (sym h))
  waited_by a b (Linear c ts) l e h = absurd (true≢false (sym h))
  waited_by a b (Bootstrap i table) l e h =
      let t = selected (is_boot nodes) a (is_or_needs nodes i) h in
      let m : member i (needs (node_at nodes b)) ≡ true = rw e (member_head i []) in
      let k = s.earlier b l i m in
      let n = is_or_needs_before i a (omega arith) t.0 in
      let p = n.0 in
      let q = n.1 in
      let d : depth nodes i + 1 ≤ depth nodes b = rw e at (source_depth nodes s.earlier i b l m) in
      record { boot = t.1; before = omega arith; less_deep = omega arith }

  pub waited : (a b : ℕ) → is_boot nodes b ≡ true → member a (waits_for nodes (node_at nodes b)) ≡ true → Waited a b
  waited a b h m = waited_by a b (node_at nodes b) (boot_within nodes b h) refl m

  depth_by : (i : ℕ) (x : LutNode) → i < length nodes → node_at nodes i ≡ x → depth nodes i ≡ node_depth (depth nodes) x
  depth_by i x l e = depth_is nodes s.earlier i l ∙ ap (node_depth (depth nodes)) e

  -- a node is no deeper than the boots that it is or needs
  by_boots : (r i : ℕ) (x : LutNode) → i < length nodes → node_at nodes i ≡ x → ((a : ℕ) → member a (select (is_boot nodes) (is_or_needs nodes i)) ≡ true → depth nodes a ≤ r)
      → depth nodes i ≤ r
  unfolding is_or_needs needs is_boot is_bootstrap node_depth
  by_boots r i (Input n) l e f = omega (arith, depth_by i (Input n) l e)
  by_boots r i (Linear c ts) l e f = by (deepest_one (depth nodes) ts)
    where
      d : depth nodes i ≡ largest (λ (t : Term). depth nodes t.node) ts
      d = depth_by i (Linear c ts) l e

      -- a source is no sum, so it is an input or a boot
      source : (j : ℕ) (x : LutNode) → j < length nodes → node_at nodes j ≡ x → is_linear x ≡ false → member j (sources ts) ≡ true → depth nodes j ≤ r
      source j (Input n) k g h m = omega (arith, depth_by j (Input n) k g)
      source j (Linear c ts) k g h m = absurd (true≢false (unfold is_linear in h))
      source j (Bootstrap i table) k g h m = f j (select-member (is_boot nodes) j _ (rw e m) (rw g refl))

      by : (largest (λ (t : Term). depth nodes t.node) ts ≡ 0) ⊎ ((j : ℕ) × (member j (sources ts) ≡ true) × (depth nodes j ≡ largest (λ (t : Term). depth nodes t.node) ts))
          → depth nodes i ≤ r
      by (inl z) = omega (arith, d)
      by (inr q) =
          let k = s.earlier i l q.0 (rw e q.1) in
          let z = q.2 in
          omega (arith, d, source q.0 (node_at nodes q.0) (omega arith) refl (s.no_sum i l c ts e q.0 q.1) q.1)
  by_boots r i (Bootstrap j table) l e f = f i (select-member (is_boot nodes) i _ (rw e (member_head i [])) (rw e refl))

  deep_by : (r b : ℕ) (x : LutNode) → b < length nodes → node_at nodes b ≡ x → is_bootstrap x ≡ true → ((a : ℕ) → member a (waits_for nodes x) ≡ true → depth nodes a ≤ r)
      → depth nodes b ≤ suc r
  unfolding waits_for needs is_bootstrap node_depth
  deep_by r b (Input n) l e h f = absurd (true≢false (sym h))
  deep_by r b (Linear c ts) l e h f = absurd (true≢false (sym h))
  deep_by r b (Bootstrap i table) l e h f =
      let k = s.earlier b l i (rw e (member_head i [])) in
      let d = by_boots r i (node_at nodes i) (omega arith) refl f in
      omega (arith, depth_by b (Bootstrap i table) l e)

  -- a boot is deeper than what it waits for by one at most
  pub waits_deep : (r b : ℕ) → is_boot nodes b ≡ true → ((a : ℕ) → member a (waits_for nodes (node_at nodes b)) ≡ true → depth nodes a ≤ r) → depth nodes b ≤ suc r
  unfolding is_boot
  waits_deep r b h f = deep_by r b (node_at nodes b) (boot_within nodes b h) refl h f

  pub some_depth : (b : ℕ) → is_boot nodes b ≡ true → 0 < depth nodes b
  unfolding is_boot
  some_depth b h = rw h at (boot_deep nodes s.earlier b (boot_within nodes b h))

  -- ---- The deepest.

  deepest_by : (i : ℕ) (x : LutNode) → i < length nodes → node_at nodes i ≡ x → 0 < depth nodes i → (b : ℕ) × (is_boot nodes b ≡ true) × (depth nodes b ≡ depth nodes i)
  unfolding node_depth is_boot is_bootstrap needs
  deepest_by i (Input n) l e h = absurd (omega (arith, depth_by i (Input n) l e))
  deepest_by i (Linear c ts) l e h = by (deepest_one (depth nodes) ts)
    where
      d : depth nodes i ≡ largest (λ (t : Term). depth nodes t.node) ts
      d = depth_by i (Linear c ts) l e

      boot : (j : ℕ) (x : LutNode) → j < length nodes → node_at nodes j ≡ x → is_linear x ≡ false → 0 < depth nodes j → is_bootstrap (node_at nodes j) ≡ true
      boot j (Input a) k g n h = absurd (omega (arith, depth_by j (Input a) k g))
      boot j (Linear c ts) k g n h = absurd (true≢false (unfold is_linear in n))
      boot j (Bootstrap i table) k g n h = rw g refl

      by : (largest (λ (t : Term). depth nodes t.node) ts ≡ 0) ⊎ ((j : ℕ) × (member j (sources ts) ≡ true) × (depth nodes j ≡ largest (λ (t : Term). depth nodes t.node) ts))
          → (b : ℕ) × (is_bootstrap (node_at nodes b) ≡ true) × (depth nodes b ≡ depth nodes i)
      by (inl z) = absurd (omega (arith, d))
      by (inr q) =
          let k = s.earlier i l q.0 (rw e q.1) in
          let z : depth nodes q.0 ≡ depth nodes i = q.2 ∙ sym d in
          (q.0, boot q.0 (node_at nodes q.0) (omega arith) refl (s.no_sum i l c ts e q.0 q.1) (omega (arith, d)), z)
  deepest_by i (Bootstrap j table) l e h = (i, rw e refl, refl)

  -- some boot has the largest depth, if that is not 0
  pub deepest_boot : 0 < largest_depth nodes → (b : ℕ) × (is_boot nodes b ≡ true) × (depth nodes b ≡ largest_depth nodes)
  deepest_boot h =
      let d = deepest nodes (some_node nodes h) in
      let e = d.2 in
      let r = deepest_by d.0 (node_at nodes d.0) d.1 refl (omega arith) in
      (r.0, r.1, r.2 ∙ e)
    where
      some_node : (ns : List LutNode) → 0 < largest_depth ns → 0 < length ns
      some_node [] k = absurd (unfold largest_depth depths depths_from largest in (omega arith))
      some_node (n ∷ ns) k = omega arith
