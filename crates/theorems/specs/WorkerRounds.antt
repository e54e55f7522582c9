-- As all boots last D ticks, they begin at multiples of D: the ticks go by rounds, and nothing begins between them (document 02, S-13).
use Rattle.std.specs.Prelude.{◌≡◌, refl, Bool, true, false, ◌&&◌, not, ◌⊎◌, List, [], ◌∷◌, ◌++◌, map, ℕ, zero, suc, ◌+◌, ◌-◌, ◌*◌, ◌≤◌, ◌<◌, length, take}
use Rattle.std.proofs.Common.{sym, ap, ap₂, ◌∙◌, ⊎_elim, append-nil, suc-mul, zero-mul, mul_comm, zero-add, suc-add, arith, length-append, length-take, take_all}
use Rattle.std.proofs.Math.Seq.{take-nil}
use Rattle.std.proofs.lemmas.Bool.{not-true, false_from_ne_true}
use Rattle.std.proofs.lemmas.List.Elements.{All-nil, All-append}
use Rattle.laws.specs.Lists.{nil_of}
use Rattle.laws.specs.Select.{select, all, select_nil}
use Rattle.laws.specs.Test.{decide, lt_or_le, both_left, both_right, not_both}
use Rattle.rules.specs.Network.{LutNode, member, node_at, largest}
use Rattle.rules.specs.NetworkText.{all_different}
use Rattle.rules.specs.Workers.{is_boot, boots, waits_for, Start, boots_in, begun, finished, running, ready, taken, starts_at, log_before, whole_log, start_of, Simulated, simulated}
use Rattle.theorems.specs.BootDepths.{boot_member, member_boot, boots_different}
use Rattle.theorems.specs.Depths.{largest-append}
use Rattle.theorems.specs.Members.{no_member, select-member, selected, selected_different, All-from_members, member-take, different-take, no_more, append-different}
use Rattle.theorems.specs.StartLogs.{boots_in_more, still_begun, now_begun, begun_cases, Done, done_later, done_starts_at, finished_done, finished_before, running_more, running_done, running_now, last_end, start_old, start_new, start_of-starts_at}

-- ---- The statement.

-- Not begun, and all that it waits for begun in an earlier round.
unfoldable pub fresh : List LutNode → List Start → ℕ → Bool
fresh nodes log b = not (begun log b) && all (begun log) (waits_for nodes (node_at nodes b))

-- A round takes the W fresh ones of lowest number, or all of them.
unfoldable pub chosen : List LutNode → ℕ → List Start → List ℕ
chosen nodes W log = take W (select (fresh nodes log) (boots nodes))

-- What was begun before a round.
unfoldable pub rounds : List LutNode → ℕ → ℕ → ℕ → List Start
rounds nodes W D zero = []
rounds nodes W D (suc r) = let log = rounds nodes W D r in log ++ starts_at (r * D) (chosen nodes W log)

-- ---- Round by round.

module _ (nodes : List LutNode) (W D : ℕ) where
  pub rounds_done : (r : ℕ) → Done D (r * D) (rounds nodes W D r)
  unfolding rounds
  rounds_done zero = All-nil (λ (s : Start). s.tick + D ≤ zero * D)
  rounds_done (suc r) =
      let e = suc-mul r D in
      All-append (λ (s : Start). s.tick + D ≤ suc r * D) (rounds nodes W D r) _
      (done_later D (r * D) (suc r * D) (rounds nodes W D r) (omega arith) (rounds_done r))
      (done_starts_at D (r * D) (suc r * D) (chosen nodes W (rounds nodes W D r)) (omega arith))

  -- at a round's first tick all workers are free, and ready is what is fresh
  first_taken : (t : ℕ) (log : List Start) → Done D t log → taken nodes W D t log ≡ chosen nodes W log
  unfolding taken chosen ready fresh
  first_taken t log d =
      let free : W - running D t log ≡ W = omega (arith, running_done D t log d) in
      ap₂ {C = List ℕ} (λ k l. take k l) free
      (ap (λ (f : ℕ → Bool). select (λ b. not (begun log b) && all f (waits_for nodes (node_at nodes b))) (boots nodes)) (λ i a. finished_done D t log a d i))

  module _ (t u : ℕ) (log : List Start) (d : Done D u log) (l : u ≤ t) (m : t < u + D) where
    -- where all fresh ones were taken none is ready until they are finished
    none_ready : take W (select (fresh nodes log) (boots nodes)) ≡ select (fresh nodes log) (boots nodes) → (b : ℕ) → member b (boots nodes) ≡ true
        → ready nodes D t (log ++ starts_at u (chosen nodes W log)) b ≡ false
    unfolding ready fresh chosen
    none_ready e b h = by (begun (log ++ starts_at u picked) b) refl
      where
        picked : List ℕ
        picked = take W (select (λ b. not (begun log b) && all (begun log) (waits_for nodes (node_at nodes b))) (boots nodes))

        now : all (finished D t (log ++ starts_at u picked)) (waits_for nodes (node_at nodes b)) ≡ all (begun log) (waits_for nodes (node_at nodes b))
        now = ap (λ (f : ℕ → Bool). all f (waits_for nodes (node_at nodes b))) (λ i a. finished_before D t u log picked a (done_later D u t log l d) m i)

        by : (x : Bool) → begun (log ++ starts_at u picked) b ≡ x → (not x && all (finished D t (log ++ starts_at u picked)) (waits_for nodes (node_at nodes b))) ≡ false
        by true f = refl
        by false f =
            let old : begun log b ≡ false = false_from_ne_true (begun log b) (λ k. not_both _ (still_begun log u picked b k) f) in
            now
            ∙ ⊎_elim
            (λ (y : all (begun log) (waits_for nodes (node_at nodes b)) ≡ true).
            absurd (not_both _ (now_begun log u picked b (ap (member b) e ∙ select-member (fresh nodes log) b (boots nodes) h (rw (old, y) refl))) f))
            (λ y. y)
            (decide (all (begun log) (waits_for nodes (node_at nodes b))))

    all_taken : length (chosen nodes W log) < W → take W (select (fresh nodes log) (boots nodes)) ≡ select (fresh nodes log) (boots nodes)
    unfolding chosen
    all_taken f = take_all W (select (fresh nodes log) (boots nodes)) (omega (arith, length-take W (select (fresh nodes log) (boots nodes))))

    later_taken : u < t → taken nodes W D t (log ++ starts_at u (chosen nodes W log)) ≡ []
    unfolding taken
    later_taken k =
        ⊎_elim
        (λ (f : length (chosen nodes W log) < W). ap (take free) (select_nil _ (boots nodes) (All-from_members _ (boots nodes) (none_ready (all_taken f)))) ∙ take-nil free)
        (λ (f : W ≤ length (chosen nodes W log)). ap (λ n. take n (select (ready nodes D t after) (boots nodes))) (busy f))
        (lt_or_le (length (chosen nodes W log)) W)
      where
        after : List Start
        after = log ++ starts_at u (chosen nodes W log)

        free : ℕ
        free = W - running D t after

        busy : W ≤ length (chosen nodes W log) → W - running D t after ≡ 0
        busy f = omega (arith, running_more D t log (starts_at u (chosen nodes W log)), running_now D t u (chosen nodes W log) l m)

  -- the ticks of a round
  within_round : (r k t : ℕ) → log_before nodes W D (r * D) ≡ rounds nodes W D r → t ≡ r * D + k → k < D → log_before nodes W D (suc t) ≡ rounds nodes W D (suc r)
  unfolding log_before rounds
  within_round r zero t h e l =
      let f : t ≡ r * D = omega arith in
      let g : log_before nodes W D t ≡ rounds nodes W D r = ap (log_before nodes W D) f ∙ h in
      ap₂ {C = List Start} (λ log bs. log ++ bs) g
      (ap₂ {C = List Start} starts_at f
      (ap (taken nodes W D t) g ∙ first_taken t (rounds nodes W D r) (done_later D (r * D) t (rounds nodes W D r) (omega arith) (rounds_done r))))
  within_round r (suc k) t h e l =
      let t' = r * D + k in
      let f : t ≡ suc t' = omega arith in
      let g : log_before nodes W D t ≡ rounds nodes W D r ++ starts_at (r * D) (chosen nodes W (rounds nodes W D r)) = ap (log_before nodes W D) f ∙ within_round r k t' h refl (omega arith) in
      ap₂ {C = List Start} (λ log bs. log ++ starts_at t bs) g
      (ap (taken nodes W D t) g ∙ later_taken t (r * D) (rounds nodes W D r) (rounds_done r) (omega arith) (omega arith) (omega arith))
      ∙ (unfold starts_at in (append-nil _))

  -- The ticks up to a round are the rounds before it.
  pub ticks_by_rounds : 0 < D → (r : ℕ) → log_before nodes W D (r * D) ≡ rounds nodes W D r
  unfolding log_before rounds
  ticks_by_rounds h zero = ap (log_before nodes W D) (zero-mul D)
  ticks_by_rounds h (suc r) =
      let e : suc r * D ≡ suc (r * D + (D - 1)) = omega (arith, suc-mul r D) in
      ap (log_before nodes W D) e ∙ within_round r (D - 1) (r * D + (D - 1)) (ticks_by_rounds h r) refl (omega arith)

  -- So the whole run is one round for each boot.
  pub run_by_rounds : 0 < D → whole_log nodes W D ≡ rounds nodes W D (length (boots nodes))
  unfolding whole_log
  run_by_rounds h = ap (log_before nodes W D) (mul_comm D (length (boots nodes))) ∙ ticks_by_rounds h (length (boots nodes))

-- ---- What a round takes.

-- A boot that a round may take.
pub record Fresh (nodes : List LutNode) (log : List Start) (b : ℕ) : Type 0 where
  pub boot : is_boot nodes b ≡ true
  pub new : begun log b ≡ false
  pub waited_for : all (begun log) (waits_for nodes (node_at nodes b)) ≡ true

pub chosen_fresh : (nodes : List LutNode) (W : ℕ) (log : List Start) (b : ℕ) → member b (chosen nodes W log) ≡ true → Fresh nodes log b
unfolding chosen fresh
chosen_fresh nodes W log b h =
    let t = selected (fresh nodes log) b (boots nodes) (member-take W b _ h) in
    record {
      boot = member_boot nodes b t.0;
      new = not-true (begun log b) (both_left (not (begun log b)) _ t.1);
      waited_for = both_right (not (begun log b)) _ t.1;
    }

module _ (nodes : List LutNode) (W D : ℕ) where
  abbrev before : ℕ → List Start
  before r = rounds nodes W D r

  abbrev round_takes : ℕ → List ℕ
  round_takes r = chosen nodes W (before r)

  pub begun_before : (r b : ℕ) → begun (before r) b ≡ true → begun (before (suc r)) b ≡ true
  unfolding rounds
  begun_before r b h = still_begun (before r) (r * D) (round_takes r) b h

  pub begun_then : (r b : ℕ) → member b (round_takes r) ≡ true → begun (before (suc r)) b ≡ true
  unfolding rounds
  begun_then r b h = now_begun (before r) (r * D) (round_takes r) b h

  pub begun_by : (r b : ℕ) → begun (before (suc r)) b ≡ true → (begun (before r) b ≡ true) ⊎ (member b (round_takes r) ≡ true)
  unfolding rounds
  begun_by r b h = begun_cases (before r) (r * D) (round_takes r) b h

  pub boots_in_rounds : (r : ℕ) → boots_in (before (suc r)) ≡ boots_in (before r) ++ round_takes r
  unfolding rounds
  boots_in_rounds r = boots_in_more (before r) (r * D) (round_takes r)

  pub start_kept : (r b : ℕ) → begun (before r) b ≡ true → start_of (before (suc r)) b ≡ start_of (before r) b
  unfolding rounds
  start_kept r b h = start_old (before r) _ b h

  pub start_now : (r b : ℕ) → begun (before r) b ≡ false → member b (round_takes r) ≡ true → start_of (before (suc r)) b ≡ r * D
  unfolding rounds
  start_now r b h m = start_new (before r) _ b h ∙ start_of-starts_at (r * D) (round_takes r) b m

  -- only boots are begun
  pub boots_only : (r b : ℕ) → begun (before r) b ≡ true → is_boot nodes b ≡ true
  boots_only zero b h = absurd (no_member b (unfold rounds begun boots_in in h))
  boots_only (suc r) b h =
      ⊎_elim (λ (e : begun (before r) b ≡ true). boots_only r b e) (λ (e : member b (round_takes r) ≡ true). (chosen_fresh nodes W (before r) b e).boot)
      (begun_by r b h)

  -- and none twice
  pub rounds_different : (r : ℕ) → all_different (boots_in (before r)) ≡ true
  rounds_different zero = unfold rounds boots_in all_different in refl
  rounds_different (suc r) =
      ap all_different (boots_in_rounds r)
      ∙ append-different (boots_in (before r)) (round_takes r) (rounds_different r)
      (unfold chosen in (different-take W _ (selected_different (fresh nodes (before r)) (boots nodes) (boots_different nodes))))
      (λ b m. false_from_ne_true _ (λ h. not_both (begun (before r) b) (unfold begun in m) (chosen_fresh nodes W (before r) b h).new))

  -- so no more are begun than there are
  pub begun_most : (r : ℕ) → length (boots_in (before r)) ≤ length (boots nodes)
  begun_most r = no_more (boots_in (before r)) (boots nodes) (rounds_different r) (λ b m. boot_member nodes b (boots_only r b (unfold begun in m)))

  -- ---- Where the rounds end.

  -- Each of the first r rounds took some.
  abbrev pub Busy : ℕ → Type 0
  Busy r = (q : ℕ) → q < r → 0 < length (round_takes q)

  busy_begun : (r : ℕ) → Busy r → r ≤ length (boots_in (before r))
  busy_begun zero f = omega arith
  busy_begun (suc r) f = omega (arith, f r (omega arith), busy_begun r (λ q l. f q (omega arith)), ap length (boots_in_rounds r), length-append (boots_in (before r)) (round_takes r))

  -- There are no more such rounds than boots.
  pub no_more_rounds : (r : ℕ) → Busy r → length (boots nodes) ≤ r → round_takes r ≡ []
  no_more_rounds r f h =
      nil_of (round_takes r)
      (omega (arith, busy_begun r f, begun_most (suc r), ap length (boots_in_rounds r), length-append (boots_in (before r)) (round_takes r)))

  idle : (r k : ℕ) → round_takes r ≡ [] → before (k + r) ≡ before r
  unfolding rounds starts_at
  idle r zero e = ap before (zero-add r)
  idle r (suc k) e =
      let h = idle r k e in
      ap before (suc-add k r) ∙ ap₂ {C = List Start} (λ log bs. log ++ starts_at ((k + r) * D) bs) h (ap (chosen nodes W) h ∙ e) ∙ append-nil (before r)

  last_round : (r : ℕ) → Busy r → last_end D (before r) ≡ r * D
  unfolding rounds starts_at largest
  last_round zero f = omega (arith, zero-mul D)
  last_round (suc r) f =
      largest-append (λ (s : Start). s.tick + D) (before r) _ ∙ omega (arith, last_round r (λ q l. f q (omega arith)), suc-mul r D, all_end (round_takes r) (f r (omega arith)))
    where
      all_end : (bs : List ℕ) → 0 < length bs → largest (λ (s : Start). s.tick + D) (map (λ (b : ℕ). record { boot = b; tick = r * D }) bs) ≡ r * D + D
      all_end [] l = absurd (omega arith)
      all_end (b ∷ []) l = omega arith
      all_end (b ∷ c ∷ bs) l = omega (arith, all_end (c ∷ bs) (omega arith))

  -- The first round that takes none ends the run.
  pub simulated_by_rounds : 0 < D → (r : ℕ) → Busy r → round_takes r ≡ [] → simulated nodes W D ≡ record { starts = map (start_of (before r)) (boots nodes); ticks = r * D }
  unfolding simulated
  simulated_by_rounds p r f e =
      let n = length (boots nodes) in
      let k : (n - r) + r ≡ n = omega (arith, busy_begun r f, begun_most r) in
      let whole : whole_log nodes W D ≡ before r = run_by_rounds nodes W D p ∙ ap before (sym k) ∙ idle r (n - r) e in
      ap₂ {C = Simulated} (λ log t. record { starts = map (start_of log) (boots nodes); ticks = t }) whole (ap (last_end D) whole ∙ last_round r f)
