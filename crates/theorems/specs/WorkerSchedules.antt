-- What is promised of a run with W workers, each bootstrap lasting D ticks, proved round by round (document 02, S-13).
use Rattle.std.specs.Prelude.{◌≡◌, refl, Bool, true, false, ◌⊎◌, List, [], ◌++◌, ℕ, zero, suc, ◌+◌, ◌-◌, ◌*◌, ◌/◌, ◌≤◌, ◌<◌, length, take}
use Rattle.std.proofs.Common.{sym, ap, ap₂, ◌∙◌, inl, inr, ⊎_elim, zero-add, suc-mul, mul_comm, mul-zero, mul-le-mul_right, append-nil, arith, length-take}
use Rattle.std.proofs.Math.Seq.{take-nil}
use Rattle.std.proofs.lemmas.List.{length-map}
use Rattle.std.proofs.lemmas.List.Elements.{All-map}
use Rattle.laws.specs.Select.{select, select_nil}
use Rattle.laws.specs.Test.{lt_or_le, not_both}
use Rattle.rules.specs.Network.{LutNode, Network, member, node_at, largest, depth, largest_depth}
use Rattle.rules.specs.NetworkText.{all_different}
use Rattle.rules.specs.Workers.{is_boot, boots, waits_for, Start, boots_in, begun, running, ready, taken, starts_at, log_before, whole_log, start_of, simulated}
use Rattle.theorems.specs.Admissible.{Admissible, net_of}
use Rattle.theorems.specs.BootDepths.{member_boot, waits_deep, deepest_boot}
use Rattle.theorems.specs.Depths.{largest-append, largest_within}
use Rattle.theorems.specs.EarlierNodes.{Sourced, pass_sourced}
use Rattle.theorems.specs.Members.{no_member, all-member, All-from_members}
use Rattle.theorems.specs.RoundCounts.{round_bound, all_begun}
use Rattle.theorems.specs.StartLogs.{done_later, running_more, running_le, running_done, running_later, last_end, ends_by_last}
use Rattle.theorems.specs.WorkerRounds.{fresh, chosen, rounds, rounds_done, run_by_rounds, Fresh, chosen_fresh, begun_before, begun_then, begun_by, boots_only, rounds_different, start_kept, start_now}

-- ---- The statement.

-- The largest depth plus a W-th part, rounded down, of how many more boots there are.
unfoldable pub most_rounds : List LutNode → ℕ → ℕ
most_rounds nodes W = largest_depth nodes + (length (boots nodes) - largest_depth nodes) / W

-- Of what was begun in a run, and of its length.
pub record Promised (nodes : List LutNode) (W D : ℕ) (log : List Start) (ticks : ℕ) : Type 0 where
  -- every boot is started and nothing else is, none twice
  pub all_begun : (b : ℕ) → is_boot nodes b ≡ true → begun log b ≡ true
  pub boots_only : (b : ℕ) → begun log b ≡ true → is_boot nodes b ≡ true
  pub none_twice : all_different (boots_in log) ≡ true
  -- none is started before the boots that its node is or needs are finished
  pub none_early : (b a : ℕ) → is_boot nodes b ≡ true → member a (waits_for nodes (node_at nodes b)) ≡ true → start_of log a + D ≤ start_of log b
  -- at no tick do more than W run
  pub few_running : (t : ℕ) → running D t log ≤ W
  -- all starts are whole multiples of D, and there are no more rounds than boots
  pub by_rounds : (b : ℕ) → is_boot nodes b ≡ true → (q : ℕ) × (q < length (boots nodes)) × (start_of log b ≡ q * D)
  -- the length of the run is the first tick at which all are finished
  pub all_finished : (b : ℕ) → is_boot nodes b ≡ true → start_of log b + D ≤ ticks
  pub no_sooner : (t : ℕ) → ((b : ℕ) → is_boot nodes b ≡ true → start_of log b + D ≤ t) → ticks ≤ t
  -- it is at least D times the largest depth, and at most D times R
  pub at_least : D * largest_depth nodes ≤ ticks
  pub no_longer : ticks ≤ D * most_rounds nodes W

module _ (nodes : List LutNode) (s : Sourced nodes) (W D : ℕ) (w : 0 < W) (p : 0 < D) where
  abbrev before : ℕ → List Start
  before r = rounds nodes W D r

  abbrev waits : ℕ → List ℕ
  waits b = waits_for nodes (node_at nodes b)

  abbrev round_takes : ℕ → List ℕ
  round_takes r = chosen nodes W (before r)

  -- ---- When a boot starts.

  -- The round that took a boot.
  record Taken (r b : ℕ) : Type 0 where
    round : ℕ
    earlier : round < r
    was : Fresh nodes (before round) b
    at : start_of (before r) b ≡ round * D

  taken_in : (r b : ℕ) → begun (before r) b ≡ true → Taken r b
  taken_in zero b h = absurd (no_member b (unfold rounds begun boots_in in h))
  taken_in (suc r) b h = by (begun_by nodes W D r b h) (begun (before r) b) refl (taken_in r b)
    where
      by : (begun (before r) b ≡ true) ⊎ (member b (round_takes r) ≡ true) → (x : Bool) → begun (before r) b ≡ x → (begun (before r) b ≡ true → Taken r b) → Taken (suc r) b
      by c true e f =
          let t = f e in
          let l = t.earlier in
          record { round = t.round; earlier = omega arith; was = t.was; at = start_kept nodes W D r b e ∙ t.at }
      by (inl m) false e f = absurd (not_both _ m e)
      by (inr m) false e f = record { round = r; earlier = omega arith; was = chosen_fresh nodes W (before r) b m; at = start_now nodes W D r b e m }

  start_stays : (q k b : ℕ) → begun (before q) b ≡ true → (begun (before (k + q)) b ≡ true) × (start_of (before (k + q)) b ≡ start_of (before q) b)
  start_stays q zero b h = let e = zero-add q in (ap (λ v. begun (before v) b) e ∙ h, ap (λ v. start_of (before v) b) e)
  start_stays q (suc k) b h =
      let e : suc k + q ≡ suc (k + q) = omega arith in
      let r = start_stays q k b h in (
        ap (λ v. begun (before v) b) e ∙ begun_before nodes W D (k + q) b r.0,
        ap (λ v. start_of (before v) b) e ∙ start_kept nodes W D (k + q) b r.0 ∙ r.1,
      )

  -- ---- Who runs.

  few_chosen : (log : List Start) → length (chosen nodes W log) ≤ W
  unfolding chosen
  few_chosen log = omega (arith, length-take W (select (fresh nodes log) (boots nodes)))

  few : (t r : ℕ) → running D t (before r) ≤ W
  few t zero = unfold rounds running select in (omega arith)
  few t (suc r) =
      ⊎_elim (λ (l : t < r * D). omega (arith, next, few t r, running_later D t (r * D) (round_takes r) l))
      (λ (l : r * D ≤ t).
      omega
      (arith, next, running_done D t (before r) (done_later D (r * D) t (before r) l (rounds_done nodes W D r)), running_le D t (starts_at (r * D) (round_takes r)), long, few_chosen (before r)))
      (lt_or_le t (r * D))
    where
      next : running D t (before (suc r)) ≡ running D t (before r) + running D t (starts_at (r * D) (round_takes r))
      next = unfold rounds in (running_more D t (before r) (starts_at (r * D) (round_takes r)))

      long : length (starts_at (r * D) (round_takes r)) ≡ length (round_takes r)
      long = unfold starts_at in (length-map (round_takes r) _)

  -- ---- The lower bound.

  fresh_deep : (r b : ℕ) → ((a : ℕ) → begun (before r) a ≡ true → depth nodes a ≤ r) → Fresh nodes (before r) b → depth nodes b ≤ suc r
  fresh_deep r b f t = waits_deep nodes s r b t.boot (λ a m. f a (all-member (begun (before r)) (waits b) t.waited_for a m))

  -- what was begun before round r is no deeper than r
  begun_deep : (r b : ℕ) → begun (before r) b ≡ true → depth nodes b ≤ r
  begun_deep zero b h = absurd (no_member b (unfold rounds begun boots_in in h))
  begun_deep (suc r) b h =
      ⊎_elim (λ (e : begun (before r) b ≡ true). omega (arith, begun_deep r b e))
      (λ (e : member b (round_takes r) ≡ true). fresh_deep r b (begun_deep r) (chosen_fresh nodes W (before r) b e))
      (begun_by nodes W D r b h)

  -- ---- The length of the run.

  -- the last of what was begun ends by x if what a round takes does, each round
  ends_within : (x r : ℕ) → ((q b : ℕ) → q < r → member b (round_takes q) ≡ true → q * D + D ≤ x) → last_end D (before r) ≤ x
  unfolding rounds starts_at largest
  ends_within x zero f = omega arith
  ends_within x (suc r) f =
      omega (
        arith,
        ends_within x r (λ q b l m. f q b (omega arith) m),
        largest-append (λ (s : Start). s.tick + D) (before r) (starts_at (r * D) (round_takes r)),
        largest_within (λ (s : Start). s.tick + D) x _
            (All-map (λ (s : Start). s.tick + D ≤ x) (λ (b : ℕ). record { boot = b; tick = r * D }) (round_takes r) (All-from_members (λ b. r * D + D ≤ x) (round_takes r) (λ b m. f r b (omega arith) m))),
      )

  ends_bound : (r : ℕ) → last_end D (before r) ≤ most_rounds nodes W * D
  unfolding most_rounds
  ends_bound r =
      ends_within (most_rounds nodes W * D) r
      (λ q b l m. let t = chosen_fresh nodes W (before q) b m in omega (arith, suc-mul q D, mul-le-mul_right D (round_bound nodes s W D w q b t.boot t.new)))

  first_end : (r t : ℕ) → ((b : ℕ) → begun (before r) b ≡ true → start_of (before r) b + D ≤ t) → last_end D (before r) ≤ t
  first_end r t f =
      ends_within t r
      (λ q b l m.
      let e : (r - suc q) + suc q ≡ r = omega arith in
      let k = start_stays (suc q) (r - suc q) b (begun_then nodes W D q b m) in
      let at = start_now nodes W D q b (chosen_fresh nodes W (before q) b m).new m in
      omega (arith, f b (ap (λ v. begun (before v) b) (sym e) ∙ k.0), ap (λ v. start_of (before v) b) (sym e) ∙ k.1 ∙ at))

  -- ---- All together.

  abbrev n : ℕ
  n = length (boots nodes)

  deep_bound : D * largest_depth nodes ≤ last_end D (before n)
  deep_bound = ⊎_elim (λ (l : 0 < largest_depth nodes). by l) (λ (l : largest_depth nodes ≤ 0). let e : largest_depth nodes ≡ 0 = omega arith in rw (e, mul-zero) (omega arith)) (lt_or_le 0 (largest_depth nodes))
    where
      by : 0 < largest_depth nodes → D * largest_depth nodes ≤ last_end D (before n)
      by l =
          let b = deepest_boot nodes s l in
          let e = b.2 in
          let a = all_begun nodes s W D w b.0 b.1 in
          let t = taken_in n b.0 a in
          let d : largest_depth nodes ≤ suc t.round = omega (arith, fresh_deep t.round b.0 (begun_deep t.round) t.was) in
          omega
          (arith, mul-le-mul_right D d, mul_comm D (largest_depth nodes), suc-mul t.round D, ends_by_last D (before n) b.0 a, t.at)

  none_early : (b a : ℕ) → is_boot nodes b ≡ true → member a (waits b) ≡ true → start_of (before n) a + D ≤ start_of (before n) b
  none_early b a h m =
      let t = taken_in n b (all_begun nodes s W D w b h) in
      let l = t.earlier in
      let x = all-member (begun (before t.round)) (waits b) t.was.waited_for a m in
      let u = taken_in t.round a x in
      let e : (n - t.round) + t.round ≡ n = omega arith in
      let k : start_of (before n) a ≡ u.round * D = ap (λ v. start_of (before v) a) (sym e) ∙ (start_stays t.round (n - t.round) a x).1 ∙ u.at in
      omega (arith, t.at, suc-mul u.round D, mul-le-mul_right D u.earlier)

  rounds_promised : Promised nodes W D (before n) (last_end D (before n))
  rounds_promised =
      record {
        all_begun = all_begun nodes s W D w;
        boots_only = boots_only nodes W D n;
        none_twice = rounds_different nodes W D n;
        none_early = none_early;
        few_running = λ t. few t n;
        by_rounds = λ b h. let t = taken_in n b (all_begun nodes s W D w b h) in (t.round, t.earlier, t.at);
        all_finished = λ b h. ends_by_last D (before n) b (all_begun nodes s W D w b h);
        no_sooner = λ t f. first_end n t (λ b h. f b (boots_only nodes W D n b h));
        at_least = deep_bound;
        no_longer = omega (arith, ends_bound n, mul_comm D (most_rounds nodes W));
      }

  -- the largest depth is no more than there are boots
  depth_few : largest_depth nodes ≤ n
  depth_few = ⊎_elim (λ (l : 0 < largest_depth nodes). let b = deepest_boot nodes s l in omega (arith, b.2, begun_deep n b.0 (all_begun nodes s W D w b.0 b.1))) (λ (l : largest_depth nodes ≤ 0). omega arith) (lt_or_le 0 (largest_depth nodes))

  run_begins_all : (b : ℕ) → is_boot nodes b ≡ true → begun (whole_log nodes W D) b ≡ true
  run_begins_all b h = ap (λ log. begun log b) (run_by_rounds nodes W D p) ∙ all_begun nodes s W D w b h

  -- none is ready where all were begun
  none_taken : (t : ℕ) → taken nodes W D t (whole_log nodes W D) ≡ []
  unfolding taken ready
  none_taken t =
      ap (take (W - running D t (whole_log nodes W D)))
      (select_nil _ (boots nodes)
      (All-from_members (λ b. ready nodes D t (whole_log nodes W D) b ≡ false) (boots nodes) (λ b m. rw (run_begins_all b (member_boot nodes b m)) refl)))
      ∙ take-nil (W - running D t (whole_log nodes W D))

  -- nothing begins behind the ticks that a run is looked at
  nothing_later : (k : ℕ) → log_before nodes W D (k + D * n) ≡ whole_log nodes W D
  unfolding log_before whole_log starts_at
  nothing_later zero = ap (log_before nodes W D) (zero-add (D * n))
  nothing_later (suc k) =
      let t = k + D * n in
      let e : suc k + D * n ≡ suc t = omega arith in
      let r = nothing_later k in
      ap (log_before nodes W D) e
      ∙ ap₂ {C = List Start} (λ log bs. log ++ starts_at t bs) r (ap (taken nodes W D t) r ∙ none_taken t)
      ∙ append-nil (whole_log nodes W D)

-- ---- For every admitted network, any number of workers and any number of ticks, from 1.

pub run_promised : (v : Network) (W D : ℕ) → Admissible v → 1 ≤ W → 1 ≤ D → Promised v.nodes W D (whole_log v.nodes W D) (simulated v.nodes W D).ticks
unfolding simulated
run_promised v W D a w p = rw (run_by_rounds v.nodes W D p) (rounds_promised v.nodes (pass_sourced (net_of v) v.nodes a.nodes) W D w p)

-- However long it is looked at, nothing begins after the ticks of `whole_log`.
pub run_whole : (v : Network) (W D k : ℕ) → Admissible v → 1 ≤ W → 1 ≤ D → log_before v.nodes W D (k + D * length (boots v.nodes)) ≡ whole_log v.nodes W D
run_whole v W D k a w p = nothing_later v.nodes (pass_sourced (net_of v) v.nodes a.nodes) W D w p k

-- "How many more boots there are" than the largest depth is a true difference.
pub depth_le_boots : (v : Network) → Admissible v → largest_depth v.nodes ≤ length (boots v.nodes)
depth_le_boots v a = depth_few v.nodes (pass_sourced (net_of v) v.nodes a.nodes) 1 1 (omega arith) (omega arith)
