-- How many rounds a run with W workers has, full ones, in which W boots begin, and short ones: at most R (`most_rounds`, WorkerSchedules; document 02, S-13).
use Rattle.std.specs.Prelude.{◌≡◌, refl, true, false, List, ◌∷◌, ℕ, zero, suc, ◌+◌, ◌-◌, ◌*◌, ◌/◌, ◌≤◌, ◌<◌, length}
use Rattle.std.proofs.Common.{ap, ◌∙◌, ⊎_elim, mul-suc, mul_comm, mul-add, mul-zero, one-mul, mul-le-mul_right, arith, length-append, length-take, take_all}
use Rattle.std.proofs.lemmas.Bool.{false_from_ne_true}
use Rattle.std.proofs.lemmas.Nat.{le-div}
use Rattle.laws.specs.Select.{select, all}
use Rattle.laws.specs.Test.{decide, lt_or_le, not_both}
use Rattle.rules.specs.Network.{LutNode, member, node_at, depth, largest_depth}
use Rattle.rules.specs.NetworkText.{all_different}
use Rattle.rules.specs.Workers.{is_boot, boots, waits_for, Start, boots_in, begun}
use Rattle.theorems.specs.BootDepths.{boot_member, waited, some_depth}
use Rattle.theorems.specs.Depths.{depth_most}
use Rattle.theorems.specs.EarlierNodes.{Sourced}
use Rattle.theorems.specs.Members.{member_cons, select-member, all_of, one_fails, some_member, no_more}
use Rattle.theorems.specs.WorkerRounds.{fresh, chosen, rounds, begun_before, begun_then, boots_in_rounds, boots_only, rounds_different}

-- f rounds of W boots and s of one or more, before the last of n boots and the depth d are reached: with the next they are no more than R
rounds_within : (W n d f s : ℕ) → 0 < W → W * f + s < n → s < d → suc (f + s) ≤ d + (n - d) / W
rounds_within W n d f s w h k = ⊎_elim (λ (l : f < d - s). omega arith) (λ (l : d - s ≤ f). many l) (lt_or_le f (d - s))
  where
    many : d - s ≤ f → suc (f + s) ≤ d + (n - d) / W
    many l =
        let g : ℕ = f - (d - suc s) in
        let e : f ≡ (d - suc s) + g = omega arith in
        let p : W * f ≡ W * (d - suc s) + W * g = ap (λ x. W * x) e ∙ mul-add W (d - suc s) g in
        let q : 1 * (d - suc s) ≤ W * (d - suc s) = mul-le-mul_right (d - suc s) w in
        let t : g ≤ (n - d) / W = le-div g (n - d) W w (omega (arith, one-mul (d - suc s), mul_comm W g)) in
        omega arith

module _ (nodes : List LutNode) (s : Sourced nodes) (W D : ℕ) (w : 0 < W) where
  abbrev before : ℕ → List Start
  before r = rounds nodes W D r

  abbrev waits : ℕ → List ℕ
  waits b = waits_for nodes (node_at nodes b)

  abbrev round_takes : ℕ → List ℕ
  round_takes r = chosen nodes W (before r)

  not_yet : (r b : ℕ) → begun (before (suc r)) b ≡ false → begun (before r) b ≡ false
  not_yet r b h = false_from_ne_true _ (λ k. not_both _ (begun_before nodes W D r b k) h)

  -- while a boot is left one is fresh: go back to one that waits for none that is left
  some_fresh : (log : List Start) (m b : ℕ) → b < m → is_boot nodes b ≡ true → begun log b ≡ false → (c : ℕ) × (is_boot nodes c ≡ true) × (fresh nodes log c ≡ true)
  some_fresh log zero b l h e = absurd (omega arith)
  some_fresh log (suc m) b l h e =
      ⊎_elim (λ (y : all (begun log) (waits b) ≡ true). (b, h, unfold fresh in (rw (e, y) refl)))
      (λ (y : all (begun log) (waits b) ≡ false).
      let a = one_fails (begun log) (waits b) y in
      let q = waited nodes s a.0 b h a.1 in
      let k = q.before in
      some_fresh log m a.0 (omega arith) q.boot a.2)
      (decide (all (begun log) (waits b)))

  -- so each round takes some
  some_chosen : (log : List Start) (b : ℕ) → is_boot nodes b ≡ true → begun log b ≡ false → 0 < length (chosen nodes W log)
  unfolding chosen
  some_chosen log b h e =
      let c = some_fresh log (suc b) b (omega arith) h e in
      let k = some_member c.0 (select (fresh nodes log) (boots nodes)) (select-member (fresh nodes log) c.0 (boots nodes) (boot_member nodes c.0 c.1) c.2) in
      omega (arith, length-take W (select (fresh nodes log) (boots nodes)))

  -- The rounds so far: full ones, in which W boots began, and short ones; after k short rounds all boots of depth k have begun.
  record Progress (r : ℕ) : Type 0 where
    full : ℕ
    short : ℕ
    all_rounds : full + short ≡ r
    work : W * full + short ≤ length (boots_in (before r))
    level : (b : ℕ) → is_boot nodes b ≡ true → depth nodes b ≤ short → begun (before r) b ≡ true

  length_next : (r : ℕ) → length (boots_in (before (suc r))) ≡ length (boots_in (before r)) + length (round_takes r)
  length_next r = ap length (boots_in_rounds nodes W D r) ∙ length-append (boots_in (before r)) (round_takes r)

  full_round : (r : ℕ) → Progress r → W ≤ length (round_takes r) → Progress (suc r)
  full_round r g l =
      let e = g.all_rounds in
      record {
        full = suc g.full;
        short = g.short;
        all_rounds = omega arith;
        work = omega (arith, g.work, mul-suc W g.full, length_next r);
        level = λ b h d. begun_before nodes W D r b (g.level b h d);
      }

  -- in a short round all fresh boots begin
  all_taken : (log : List Start) → length (chosen nodes W log) < W → (b : ℕ) → is_boot nodes b ≡ true → fresh nodes log b ≡ true → member b (chosen nodes W log) ≡ true
  unfolding chosen
  all_taken log l b h e =
      rw (take_all W (select (fresh nodes log) (boots nodes)) (omega (arith, length-take W (select (fresh nodes log) (boots nodes)))))
      (select-member (fresh nodes log) b (boots nodes) (boot_member nodes b h) e)

  short_level : (r n : ℕ) → ((b : ℕ) → is_boot nodes b ≡ true → depth nodes b ≤ n → begun (before r) b ≡ true) → length (round_takes r) < W
      → (b : ℕ) → is_boot nodes b ≡ true → depth nodes b ≤ suc n → begun (before (suc r)) b ≡ true
  short_level r n f l b h d =
      ⊎_elim (λ (e : begun (before r) b ≡ true). begun_before nodes W D r b e)
      (λ (e : begun (before r) b ≡ false). begun_then nodes W D r b (all_taken (before r) l b h (unfold fresh in (rw (e, ready_all) refl))))
      (decide (begun (before r) b))
    where
      ready_all : all (begun (before r)) (waits b) ≡ true
      ready_all = all_of (begun (before r)) (waits b) (λ a m. let q = waited nodes s a b h m in let k = q.less_deep in f a q.boot (omega arith))

  short_round : (r b : ℕ) → is_boot nodes b ≡ true → begun (before r) b ≡ false → Progress r → length (round_takes r) < W → Progress (suc r)
  short_round r b h e g l =
      let q = g.all_rounds in
      record {
        full = g.full;
        short = suc g.short;
        all_rounds = omega arith;
        work = omega (arith, g.work, some_chosen (before r) b h e, length_next r);
        level = short_level r g.short g.level l;
      }

  progress : (r b : ℕ) → is_boot nodes b ≡ true → begun (before r) b ≡ false → Progress r
  progress zero b h e =
      record {
        full = 0;
        short = 0;
        all_rounds = omega arith;
        work = omega (arith, mul-zero W);
        level = λ c k d. absurd (omega (arith, some_depth nodes s c k));
      }
  progress (suc r) b h e =
      let g = progress r b h (not_yet r b e) in
      ⊎_elim (λ (l : length (round_takes r) < W). short_round r b h (not_yet r b e) g l) (λ (l : W ≤ length (round_takes r)). full_round r g l)
      (lt_or_le (length (round_takes r)) W)

  -- a boot that is left is not among those begun
  one_left : (r b : ℕ) → is_boot nodes b ≡ true → begun (before r) b ≡ false → length (boots_in (before r)) < length (boots nodes)
  unfolding begun all_different
  one_left r b h e =
      no_more (b ∷ boots_in (before r)) (boots nodes) (rw (e, rounds_different nodes W D r))
      (λ c m. ⊎_elim (λ (q : c ≡ b). ap (λ v. member v (boots nodes)) q ∙ boot_member nodes b h)
      (λ (n : member c (boots_in (before r)) ≡ true). boot_member nodes c (boots_only nodes W D r c n))
      (member_cons c b _ m))

  -- a boot that is left before a round: the round is one of R
  pub round_bound : (r b : ℕ) → is_boot nodes b ≡ true → begun (before r) b ≡ false → suc r ≤ largest_depth nodes + (length (boots nodes) - largest_depth nodes) / W
  round_bound r b h e =
      let g = progress r b h e in
      let q = g.all_rounds in
      let deep : g.short < depth nodes b =
      ⊎_elim (λ (l : g.short < depth nodes b). l) (λ (l : depth nodes b ≤ g.short). absurd (not_both _ (g.level b h l) e)) (lt_or_le g.short (depth nodes b)) in
      let k = rounds_within W (length (boots nodes)) (largest_depth nodes) g.full g.short w (omega (arith, g.work, one_left r b h e)) (omega (arith, depth_most nodes b)) in
      omega arith

  -- as many rounds as boots are enough
  pub all_begun : (b : ℕ) → is_boot nodes b ≡ true → begun (before (length (boots nodes))) b ≡ true
  all_begun b h =
      ⊎_elim (λ e. e)
      (λ (e : begun (before (length (boots nodes))) b ≡ false).
      let g = progress (length (boots nodes)) b h e in
      let k : 1 * g.full ≤ W * g.full = mul-le-mul_right g.full w in
      absurd (omega (arith, g.all_rounds, g.work, one_left (length (boots nodes)) b h e, one-mul g.full)))
      (decide (begun (before (length (boots nodes))) b))
