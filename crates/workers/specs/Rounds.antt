-- The rounds of a run, as the code has what was begun before each.
use Rattle.std.specs.Prelude.{◌≡◌, List, [], map, ℕ, ◌+◌, ◌*◌, ◌<◌, ◌≤◌, length, replicate, Option, None, All}
use Rattle.std.proofs.Common.{sym, ap, ◌∙◌, ⊎_elim, not-suc-le-zero, add-one, arith, mul-le-mul}
use Rattle.laws.specs.Lists.{nil_of}
use Rattle.laws.specs.Test.{lt_or_le}
use Rattle.rules.specs.Network.{LutNode}
use Rattle.rules.specs.Workers.{boots, Start, Simulated, simulated}
use Rattle.theorems.specs.BootDepths.{boot_within}
use Rattle.theorems.specs.Members.{All-from_members}
use Rattle.theorems.specs.WorkerRounds.{chosen, rounds, chosen_fresh, Busy, no_more_rounds, simulated_by_rounds}
use Rattle.nodes.specs.declared.store.Store.{Store}
use Rattle.nodes.specs.Store.{store_of, store_few}
use Rattle.workers.specs.Begun.{begun_in, tick_in, Begins, Logged, logged_none, logged_more}
use Rattle.workers.specs.Boots.{boots_fit}
use Rattle.workers.specs.Ready.{chosen_by, chosen_log}

-- What was begun before round r; each round before it took some.
pub record Round (nodes : List LutNode) (W D r : ℕ) (array : List (Option ℕ)) : Type 0 where
  pub logged : Logged (rounds nodes W D r) array
  pub busy : Busy nodes W D r

-- What is shown of a run that is over.
abbrev pub shown : List (Option ℕ) → List ℕ → ℕ → Simulated
shown array bs t = record { starts = map (tick_in array) bs; ticks = t }

module _ (nodes : List LutNode) (W D : ℕ) where
  pub round_first : Round nodes W D 0 (replicate 672 None)
  unfolding rounds
  round_first = record { logged = logged_none; busy = λ q l. absurd (not-suc-le-zero l) }

  module _ (r : ℕ) (array : List (Option ℕ)) (w : Round nodes W D r array) where
    abbrev log : List Start
    log = rounds nodes W D r

    chosen_is : chosen_by nodes (begun_in array) W ≡ chosen nodes W log
    chosen_is = chosen_log nodes W log (begun_in array) w.logged.which

    pub round_next : (bs : List ℕ) (after : List (Option ℕ)) → bs ≡ chosen_by nodes (begun_in array) W → 0 < length bs → Begins (r * D) bs array after → Round nodes W D (r + 1) after
    unfolding rounds
    round_next bs after e some b =
        let k : bs ≡ chosen nodes W log = e ∙ chosen_is in
        rw add-one
        (record {
          logged = logged_more log (r * D) _ array after w.logged (rw k at b) (λ b m. (chosen_fresh nodes W log b m).new);
          busy = λ q l. ⊎_elim (λ (m : q < r). w.busy q m) (λ (m : r ≤ q). let f : q ≡ r = omega arith in rw (f, ← k) some) (lt_or_le q r);
        })

    over : 0 < D → chosen nodes W log ≡ [] → shown array (boots nodes) (r * D) ≡ simulated nodes W D
    over p e = ap (λ (f : ℕ → ℕ). record { starts = map f (boots nodes); ticks = r * D }) (λ i b. w.logged.when b i) ∙ sym (simulated_by_rounds nodes W D p r w.busy e)

    pub round_last : 0 < D → (bs : List ℕ) → bs ≡ chosen_by nodes (begun_in array) W → length bs ≡ 0 → shown array (boots nodes) (r * D) ≡ simulated nodes W D
    round_last p bs e z = over p (sym chosen_is ∙ sym e ∙ nil_of bs z)

    -- one round for each boot
    pub round_all : 0 < D → length (boots nodes) ≤ r → shown array (boots nodes) (r * D) ≡ simulated nodes W D
    round_all p h = over p (no_more_rounds nodes W D r w.busy h)

-- ---- laws: of a store

pub chosen_within : (s : Store) (W D r : ℕ) (array : List (Option ℕ)) → Round (store_of s) W D r array → (bs : List ℕ) → bs ≡ chosen_by (store_of s) (begun_in array) W → All (λ b. b < 672) bs
chosen_within s W D r array w bs e =
    rw (e ∙ chosen_is (store_of s) W D r array w)
    (All-from_members (λ b. b < 672) _ (λ b m. omega (arith, boot_within (store_of s) b (chosen_fresh (store_of s) W (rounds (store_of s) W D r) b m).boot, store_few s)))

pub ticks_few : (s : Store) (bs : List ℕ) → bs ≡ boots (store_of s) → (r D : ℕ) → r ≤ length bs → D ≤ 1000 → r * D ≤ 671000
ticks_few s bs e r D h d = let few : r ≤ 671 = omega (arith, ap length e, boots_fit s) in omega (arith, mul-le-mul few d)

pub ruleset going = (round_first, round_next, round_last, round_all, chosen_within, ticks_few)
