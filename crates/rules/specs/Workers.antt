-- Trying worker counts: a run with W workers, each bootstrap lasting D ticks, simulated tick by tick (document 02, S-13).
use Rattle.std.specs.Prelude.{Bool, ◌&&◌, not, List, [], ◌∷◌, ◌++◌, map, ℕ, zero, suc, ◌+◌, ◌-◌, ◌*◌, leb, ltb, eqb, length, take, Result, Ok, Err}
use Rattle.laws.specs.Over.{over}
use Rattle.laws.specs.Select.{select, any, all}
use Rattle.laws.specs.Tabulate.{numbers}
use Rattle.laws.specs.Test.{if◌then◌otherwise◌}
use Rattle.rules.specs.declared.Refusal.{Refusal}
use Rattle.rules.specs.declared.WorkerRun.{WorkerRun}
use Rattle.rules.specs.Form.{Reading, Good, Refused}
use Rattle.rules.specs.Network.{LutNode, Input, Linear, Bootstrap, Network, is_bootstrap, member, largest, node_at}
use Rattle.rules.specs.NetworkText.{read_admitted}
use Rattle.rules.specs.Refusal.{reason_number}
use Rattle.rules.specs.Store.{needs}

-- ---- Boots, and what they wait for.

unfoldable pub is_boot : List LutNode → ℕ → Bool
is_boot nodes i = is_bootstrap (node_at nodes i)

-- All boots, those that no output needs too, in the order of their numbers.
unfoldable pub boots : List LutNode → List ℕ
boots nodes = select (is_boot nodes) (numbers (length nodes))

-- Node i itself where it is a `boot`, what it adds where it is a `lin`.
unfoldable pub is_or_needs : List LutNode → ℕ → List ℕ
is_or_needs nodes i = if is_boot nodes i then i ∷ [] otherwise needs (node_at nodes i)

-- What a `boot` waits for: all boots that its node is or needs.
unfoldable pub waits_for : List LutNode → LutNode → List ℕ
waits_for nodes (Input n) = []
waits_for nodes (Linear c ts) = []
waits_for nodes (Bootstrap i table) = select (is_boot nodes) (is_or_needs nodes i)

-- ---- What was begun so far.

-- A boot, and the tick at which a worker took it.
pub record Start : Type 0 where
  pub boot : ℕ
  pub tick : ℕ

unfoldable pub boots_in : List Start → List ℕ
boots_in log = map (λ (s : Start). s.boot) log

unfoldable pub begun : List Start → ℕ → Bool
begun log b = member b (boots_in log)

-- A boot begun at tick t is finished at tick t + D.
unfoldable pub finished : ℕ → ℕ → List Start → ℕ → Bool
finished D now log b = any (λ (s : Start). eqb b s.boot && leb (s.tick + D) now) log

-- How many workers are busy: their boots are begun, and not finished.
unfoldable pub running : ℕ → ℕ → List Start → ℕ
running D now log = length (select (λ (s : Start). leb s.tick now && ltb now (s.tick + D)) log)

-- ---- A tick.

-- A boot that was not begun is ready when all that it waits for are finished.
unfoldable pub ready : List LutNode → ℕ → ℕ → List Start → ℕ → Bool
ready nodes D now log b = not (begun log b) && all (finished D now log) (waits_for nodes (node_at nodes b))

-- Free workers take the ready boots of lowest number.
unfoldable pub taken : List LutNode → ℕ → ℕ → ℕ → List Start → List ℕ
taken nodes W D now log = take (W - running D now log) (select (ready nodes D now log) (boots nodes))

unfoldable pub starts_at : ℕ → List ℕ → List Start
starts_at now bs = map (λ (b : ℕ). record { boot = b; tick = now }) bs

-- What was begun before a tick: the ticks in turn, from 0.
unfoldable pub log_before : List LutNode → ℕ → ℕ → ℕ → List Start
log_before nodes W D zero = []
log_before nodes W D (suc now) = let log = log_before nodes W D now in log ++ starts_at now (taken nodes W D now log)

-- The whole run: after D ticks for each boot even a single worker has begun them all.
unfoldable pub whole_log : List LutNode → ℕ → ℕ → List Start
whole_log nodes W D = log_before nodes W D (D * length (boots nodes))

-- ---- What is shown.

-- The tick at which a boot was begun.
unfoldable pub start_of : List Start → ℕ → ℕ
start_of [] b = 0
start_of (s ∷ log) b = let r = start_of log b in if eqb b s.boot then s.tick otherwise r

-- The start tick of each boot, in the order of their numbers, and the length of the run: the tick at which all are finished, 0 if there are none.
pub record Simulated : Type 0 where
  pub starts : List ℕ
  pub ticks : ℕ

unfoldable pub simulated : List LutNode → ℕ → ℕ → Simulated
simulated nodes W D =
    let log = whole_log nodes W D in
    record { starts = map (start_of log) (boots nodes); ticks = largest (λ (s : Start). s.tick + D) log }

-- 1 to 32 workers, 1 to 1,000 ticks.
unfoldable pub trial_limits : ℕ → ℕ → Bool
trial_limits W D = leb 1 W && leb W 32 && leb 1 D && leb D 1000

-- After admission. 41: W or D outside its limits; no line.
unfoldable pub trial_on : Reading Network → ℕ → ℕ → Reading Simulated
trial_on (Refused k i) W D = Refused k i
trial_on (Good w) W D = if trial_limits W D then Good (simulated w.nodes W D) otherwise Refused 41 0

unfoldable pub trial : List ℕ → ℕ → ℕ → Reading Simulated
trial text W D = trial_on (read_admitted text) W D

-- ---- The answer.

-- Accepted: number 0, the count of boots and the length of the run. Refused: a number and a line, and 0 for both.
pub record TrialReply : Type 0 where
  pub number : ℕ
  pub line : ℕ
  pub count : ℕ
  pub ticks : ℕ

abbrev pub with_run : ℕ → ℕ → TrialReply
with_run n t = record { number = 0; line = 0; count = n; ticks = t }

abbrev pub no_run : ℕ → ℕ → TrialReply
no_run k l = record { number = k; line = l; count = 0; ticks = 0 }

-- The reply, and the array of 671 ticks as it is left.
pub record TrialAnswer : Type 0 where
  pub reply : TrialReply
  pub starts : List ℕ

abbrev pub tried : TrialReply → List ℕ → TrialAnswer
tried r s = record { reply = r; starts = s }

-- The start ticks, one a boot, later places kept; a refusal keeps all.
unfoldable pub trial_answer : Reading Simulated → List ℕ → TrialAnswer
trial_answer (Good r) array = tried (with_run (length r.starts) r.ticks) (over r.starts array)
trial_answer (Refused k i) array = tried (no_run k i) array

-- Document 02's number and values for each reply.
abbrev pub trial_reply : Result WorkerRun Refusal → TrialReply
trial_reply (Ok r) = with_run r.count r.ticks
trial_reply (Err r) = no_run (reason_number r.reason) r.line
