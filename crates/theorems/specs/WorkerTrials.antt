-- Trying worker counts (document 02, S-13): what is turned away, and what holds of the run that is shown.
use Rattle.std.specs.Prelude.{◌≡◌, refl, Bool, true, false, ◌&&◌, ◌⊎◌, ◌↔◌, List, [], ◌∷◌, ℕ, ◌*◌, ◌≤◌, ◌<◌, leb, length}
use Rattle.std.proofs.Common.{sym, ap, ap₂, subst, ◌∙◌, inl, inr, suc-mul, mul_comm, mul-le-mul, mul-le-mul_right, arith, leb-true, le-leb}
use Rattle.std.proofs.Math.Option.{none-ne-some}
use Rattle.std.proofs.lemmas.List.{length-map}
use Rattle.laws.specs.Select.{select}
use Rattle.laws.specs.Tabulate.{tabulate, numbers, tabulate-length}
use Rattle.laws.specs.Test.{if◌then◌otherwise◌, both_left, both_right, zero≢one}
use Rattle.rules.specs.Admission.{Admission, rejected, admission_of, admission}
use Rattle.rules.specs.Edition2.{is_edition2}
use Rattle.rules.specs.Form.{Reading, Good, Refused}
use Rattle.rules.specs.Network.{LutNode, Input, Linear, Bootstrap, Network, is_bootstrap, node_at}
use Rattle.rules.specs.NetworkText.{read_admitted}
use Rattle.rules.specs.Store.{needs}
use Rattle.rules.specs.Workers.{is_boot, boots, Start, whole_log, start_of, Simulated, simulated, trial_limits, trial_on, trial}
use Rattle.theorems.specs.Admissible.{net_of, few_nodes, admitted_admissible}
use Rattle.theorems.specs.Admissible2.{read_plain}
use Rattle.theorems.specs.EarlierNodes.{Ordered, pass_ordered}
use Rattle.theorems.specs.Members.{member_head, select_fewer, below_numbers}
use Rattle.theorems.specs.OldReaders.{old_admission}
use Rattle.theorems.specs.Results.{good_same}
use Rattle.theorems.specs.WorkerSchedules.{Promised, run_promised}

-- ---- The statement.

pub record WithinLimits (W D : ℕ) : Type 0 where
  pub workers : (1 ≤ W) × (W ≤ 32)
  pub ticks : (1 ≤ D) × (D ≤ 1000)

-- What is shown for a text: the run of the network that admission reads, with what is promised of it.
pub record TrialShown (text : List ℕ) (W D : ℕ) (x : Simulated) : Type 0 where
  pub network : Network
  pub read : read_admitted text ≡ Good network
  pub limits : WithinLimits W D
  pub is : x ≡ simulated network.nodes W D
  pub promised : Promised network.nodes W D (whole_log network.nodes W D) x.ticks
  -- so the start ticks fit 671 places, and a run is over at tick 671,000 at the latest
  pub few_starts : length x.starts ≤ 671
  pub short : x.ticks ≤ 671000

-- Number k at line i: admission's, or else 41 at line 0 where W or D is outside its limits.
abbrev pub TurnedAway : (W D k i : ℕ) → Reading Network → Type 0
TurnedAway W D k i r = (r ≡ Refused k i) ⊎ ((w : Network) × (r ≡ Good w) × (trial_limits W D ≡ false) × (k ≡ 41) × (i ≡ 0))

pub record TrialExact (text : List ℕ) (W D : ℕ) : Type 0 where
  -- edition 2 gets 21 at line 1; of a plain text admission's refusals come first, then 41
  pub edition_2 : is_edition2 text ≡ true → trial text W D ≡ Refused 21 1
  pub unadmitted : (k i : ℕ) → is_edition2 text ≡ false → admission text ≡ rejected k i → trial text W D ≡ Refused k i
  pub refused : (k i : ℕ) → (trial text W D ≡ Refused k i) ↔ TurnedAway W D k i (read_admitted text)
  -- an admitted network within the limits is run, and only such a one
  pub run : (w : Network) → read_admitted text ≡ Good w → WithinLimits W D → trial text W D ≡ Good (simulated w.nodes W D)
  pub shown : (x : Simulated) → trial text W D ≡ Good x → TrialShown text W D x

-- ---- The limits.

pub limits_met : (W D : ℕ) → trial_limits W D ≡ true → WithinLimits W D
unfolding trial_limits
limits_met W D e =
    let fewer = leb 1 W && leb W 32 in
    let lasting = fewer && leb 1 D in
    let l = both_left lasting (leb D 1000) e in
    let f = both_left fewer (leb 1 D) l in
    record {
      workers = (leb-true 1 W (both_left (leb 1 W) (leb W 32) f), leb-true W 32 (both_right (leb 1 W) (leb W 32) f));
      ticks = (leb-true 1 D (both_right fewer (leb 1 D) l), leb-true D 1000 (both_right lasting (leb D 1000) e));
    }

met_limits : (W D : ℕ) → WithinLimits W D → trial_limits W D ≡ true
unfolding trial_limits
met_limits W D l = rw (le-leb 1 W l.workers.0, le-leb W 32 l.workers.1, le-leb 1 D l.ticks.0, le-leb D 1000 l.ticks.1) refl

-- ---- How many boots there are, and how long a run is.

-- the first node is no boot: there is nothing before it
first_no_boot : (nodes : List LutNode) → Ordered nodes → 0 < length nodes → is_boot nodes 0 ≡ false
unfolding is_boot
first_no_boot nodes s l = by (node_at nodes 0) refl
  where
    by : (x : LutNode) → node_at nodes 0 ≡ x → is_bootstrap x ≡ false
    by (Input a) e = unfold is_bootstrap in refl
    by (Linear c ts) e = unfold is_bootstrap in refl
    by (Bootstrap i table) e = let k : i < 0 = s 0 l i (rw e (unfold needs in (member_head i []))) in absurd (omega arith)

pub few_boots : (nodes : List LutNode) → Ordered nodes → length nodes ≤ 672 → length (boots nodes) ≤ 671
unfolding boots
few_boots [] s l = unfold select tabulate in (omega arith)
few_boots (x ∷ xs) s l =
    let n = length (x ∷ xs) in
    omega
    (arith, select_fewer (is_boot (x ∷ xs)) 0 (numbers n) (below_numbers n 0 (omega arith)) (first_no_boot (x ∷ xs) s (omega arith)), tabulate-length n (λ (k : ℕ). k))

-- the run is over when a single worker would be through
pub run_short : (nodes : List LutNode) (W D t : ℕ) (log : List Start) → Promised nodes W D log t → t ≤ D * length (boots nodes)
run_short nodes W D t log c =
    c.no_sooner (D * length (boots nodes))
    (λ b h.
    let q = c.by_rounds b h in
    omega (arith, q.2, suc-mul q.0 D, mul-le-mul_right D q.1, mul_comm D (length (boots nodes))))

-- ---- What is shown.

module _ (text : List ℕ) (W D : ℕ) where
  shown_of : (w : Network) → read_admitted text ≡ Good w → WithinLimits W D → TrialShown text W D (simulated w.nodes W D)
  shown_of w e l =
      let a = admitted_admissible text w e in
      let c = run_promised w W D a l.workers.0 l.ticks.0 in
      let few = few_boots w.nodes (pass_ordered (net_of w) w.nodes a.nodes) (few_nodes (net_of w) w.nodes a.nodes) in
      let d = l.ticks.1 in
      record {
        network = w;
        read = e;
        limits = l;
        is = refl;
        promised = c;
        few_starts = unfold simulated in (omega (arith, few, length-map (boots w.nodes) (start_of (whole_log w.nodes W D))));
        short = omega (arith, run_short w.nodes W D _ _ c, mul-le-mul d few);
      }

  shown_by : (r : Reading Network) → read_admitted text ≡ r → (x : Simulated) → trial_on r W D ≡ Good x → TrialShown text W D x
  unfolding trial_on
  shown_by (Refused k i) e x f = absurd (zero≢one (cc))
  shown_by (Good w) e x f = by (trial_limits W D) refl f
    where
      by : (b : Bool) → trial_limits W D ≡ b → (if b then Good (simulated w.nodes W D) otherwise Refused 41 0) ≡ Good x → TrialShown text W D x
      by true l g = subst (TrialShown text W D) (good_same (simulated w.nodes W D) x g) (shown_of w e (limits_met W D l))
      by false l g = absurd (zero≢one (cc))

  refused_by : (k i : ℕ) (r : Reading Network) → (trial_on r W D ≡ Refused k i) ↔ TurnedAway W D k i r
  unfolding trial_on
  refused_by k i (Refused j h) = (λ e. inl (cc), λ t. back t)
    where
      back : TurnedAway W D k i (Refused j h) → ◌≡◌ {A = Reading Simulated} (Refused j h) (Refused k i)
      back (inl e) = cc
      back (inr q) = let e = q.1 in absurd (zero≢one (cc))
  refused_by k i (Good w) = (λ e. to (trial_limits W D) refl e, λ t. back t)
    where
      to : (b : Bool) → trial_limits W D ≡ b → (if b then Good (simulated w.nodes W D) otherwise Refused 41 0) ≡ Refused k i → TurnedAway W D k i (Good w)
      to true l e = absurd (zero≢one (cc))
      to false l e = inr (w, refl, l, cc, cc)

      back : TurnedAway W D k i (Good w) → (if trial_limits W D then Good (simulated w.nodes W D) otherwise Refused 41 0) ≡ Refused k i
      back (inl e) = absurd (zero≢one (cc))
      back (inr q) = let e = q.3 in let f = q.4 in rw q.2 (cc)

  refused_first : (r : Reading Network) (k i : ℕ) → admission_of r ≡ rejected k i → trial_on r W D ≡ Refused k i
  unfolding admission_of trial_on
  refused_first (Refused j h) k i e = ap₂ Refused (ap (λ (a : Admission). a.number) e) (ap (λ (a : Admission). a.line) e)
  refused_first (Good w) k i e = absurd (none-ne-some _ (sym (ap (λ (a : Admission). a.stats) e)))

  pub trial_exact : TrialExact text W D
  unfolding trial trial_on admission
  trial_exact =
      record {
        edition_2 = λ e. ap (λ r. trial_on r W D) (old_admission text e);
        unadmitted = λ k i p e. refused_first (read_admitted text) k i (ap admission_of (sym (read_plain text p)) ∙ e);
        refused = λ k i. refused_by k i (read_admitted text);
        run = λ w e l. ap (λ r. trial_on r W D) e ∙ rw (met_limits W D l) refl;
        shown = λ x e. shown_by (read_admitted text) refl x e;
      }
