-- Trial runs of an admitted network on phases (document 02, S-5 and S-8).
use Rattle.std.specs.Prelude.{◌≡◌, true, List, [], ℕ, ◌<◌, T, ℤ, pos, length, get_or}
use Rattle.std.proofs.Common.{sym, ap, ◌∙◌}
use Rattle.std.proofs.Math.Option.{Option, some, some-injective}
use Rattle.rules.specs.declared.Stats.{Stats}
use Rattle.rules.specs.Admission.{admitted, admission}
use Rattle.rules.specs.Network.{Bootstrap, Network, node_at, is_input, count, node_values}
use Rattle.rules.specs.Phase.{is_period}
use Rattle.rules.specs.Runs.{bits_for}
use Rattle.theorems.specs.AdmittedSafe.{Safe}
use Rattle.theorems.proofs.AdmittedSafe.{admitted_safe}
use Rattle.theorems.specs.SlotExact.{Signed32, Within}
use Rattle.theorems.specs.TrialRuns.{Tried, TrialRuns, tried, zeros_for}

pub trial_runs : (text : List ℕ) (s : Stats) → admission text ≡ admitted s → TrialRuns text
trial_runs text s a = record { network = w; read = (admitted_safe text s a).read; table_bit = in_table; run-bit = in_run }
  where
    w : Network
    w = (admitted_safe text s a).network

    safe : (bits : List ℕ) → T (bits_for (count is_input w.nodes) bits) → Safe w bits
    safe = (admitted_safe text s a).safe

    in_table : is_period w.p ≡ true → (k i : ℕ) (table : List ℕ) → node_at w.nodes k ≡ Bootstrap i table
        → (v : ℕ) → v < length table → (e : ℤ) → Signed32 e → Within w.p v e → Tried w.p table v e (pos (get_or table v 0))
    in_table p k i table h = tried w.p table p ((safe _ (zeros_for (count is_input w.nodes))).boots k i table h).1.turns

    in_run : is_period w.p ≡ true → (bits : List ℕ) → T (bits_for (count is_input w.nodes) bits)
        → (values : List ℤ) → node_values w.p bits [] w.nodes ≡ some values
        → (k i : ℕ) (table : List ℕ) → node_at w.nodes k ≡ Bootstrap i table
        → (v : ℕ) × (get_or values i (pos 0) ≡ pos v)
        × ((e : ℤ) → Signed32 e → Within w.p v e → Tried w.p table v e (get_or values k (pos 0)))
    in_run p bits b values r k i table h =
        let same : (safe bits b).values ≡ values = some-injective _ _ (sym (safe bits b).run ∙ r) in
        let look = ((safe bits b).boots k i table h).1 in (
          look.v,
          ap (λ vs. get_or vs i (pos 0)) (sym same) ∙ look.reads,
          λ e f n. let is = tried w.p table p look.turns look.v look.inside e f n in
              record {
                answers = is.answers;
                gives = is.gives ∙ ap {B = Option ℤ} some (sym look.gives ∙ ap (λ vs. get_or vs k (pos 0)) same);
              },
        )
