-- What is proved of the two editions of the network text and of the converter, for every text and every buffer (document 02, S-11). Read without the proofs,
-- which Proved puts together from the other files; each statement stands under the name of its proof.
-- That both editions are refused exactly by the listed conditions, and that an admitted network is safe, stands in crates/theorems (AdmissionExact, AdmittedSafe).
use Rattle.std.specs.Prelude.{◌≡◌, Bool, true, false, not, List, map, ◌↔◌, ℕ, ◌≤◌, ◌<◌, T, length}
use Rattle.laws.specs.Over.{over}
use Rattle.rules.specs.Admission.{admitted, rejected, admission}
use Rattle.rules.specs.Converter.{network_text2, convert, converter}
use Rattle.rules.specs.Edition2.{is_edition2, read_either}
use Rattle.rules.specs.Form.{Good, Refused}
use Rattle.rules.specs.Network.{LutNode, Network, node_at, network_run, stats}
use Rattle.rules.specs.NetworkText.{names}
use Rattle.rules.specs.Outcome.{outcome, written, refused}
use Rattle.rules.specs.Regroup.{same_group, moved_node, moved_output, regrouped}
use Rattle.rules.specs.Runs.{all_bits}
use Rattle.theorems.specs.Admissible.{net_of, Admissible}
use Rattle.theorems.specs.SoundCircuits.{GoodNames, SmallLimit}
use Rattle.mapped.specs.NetworkStatements.{inputs_of, output_names}

-- ---- Networks.

-- A network that a text can say: it passes admission, NORM is at most 4096, the names are names.
pub record Writable (w : Network) : Type 0 where
  pub admissible : Admissible w
  pub limit : SmallLimit w.norm
  pub inputs : GoodNames (names w.nodes)
  pub outputs : GoodNames (output_names w.outputs)

-- Nodes i and j are tables of one node.
abbrev pub shares : List LutNode → ℕ → ℕ → Bool
shares ns i j = same_group (node_at ns i) (node_at ns j)

-- The tables of each node stand together: what stands between two of them is one of them.
abbrev pub Together : List LutNode → Type 0
Together ns = (i j k : ℕ) → i < j → j < k → k < length ns → shares ns i k ≡ true → shares ns i j ≡ true

-- ---- reads_back_2: what is written in edition 2 is admitted and says the network.

abbrev pub ReadsBack2 : Type 0
ReadsBack2 = (w : Network) → Writable w → Together w.nodes → (read_either (network_text2 w) ≡ Good w) × (admission (network_text2 w) ≡ admitted (stats w))

-- ---- regroups: the tables of each node are put together, and nothing else changes.

-- v is w with its nodes numbered anew.
pub record Regroups (w v : Network) : Type 0 where
  -- the new number of each node
  pub to : ℕ → ℕ
  pub admissible : Admissible v
  pub settings : net_of v ≡ net_of w
  -- the inputs with their weights, in their order
  pub inputs : inputs_of v.nodes ≡ inputs_of w.nodes
  -- as many nodes, each with a number of its own
  pub long : length v.nodes ≡ length w.nodes
  pub within : (i : ℕ) → i < length w.nodes → to i < length v.nodes
  pub apart : (i j : ℕ) → i < length w.nodes → j < length w.nodes → to i ≡ to j → i ≡ j
  -- lines change only in node numbers
  pub nodes : (i : ℕ) → i < length w.nodes → node_at v.nodes (to i) ≡ moved_node to (node_at w.nodes i)
  pub outputs : v.outputs ≡ map (moved_output to) w.outputs
  -- the tables of a node stand together in their order, and a node that is no later table of its source stays behind all nodes of lower numbers
  pub together : Together v.nodes
  pub tables : (i j : ℕ) → i < j → j < length w.nodes → shares w.nodes j i ≡ true → to i < to j
  pub others : (i j : ℕ) → i < j → j < length w.nodes → ((h : ℕ) → h < j → shares w.nodes j h ≡ false) → to i < to j
  -- the same outputs for every assignment
  pub agrees : (bits : List ℕ) → T (all_bits bits) → network_run v bits ≡ network_run w bits

abbrev pub RegroupsEach : Type 0
RegroupsEach = (w : Network) → Admissible w → Regroups w (regrouped w)

-- ---- converts: what is converted is admitted, in the other edition, with the same statistics and outputs.

pub record Converted (text other : List ℕ) : Type 0 where
  pub network : Network
  pub read : read_either text ≡ Good network
  pub moved : Network
  pub read_back : read_either other ≡ Good moved
  pub edition : is_edition2 other ≡ not (is_edition2 text)
  pub same : Regroups network moved
  -- back to the plain text each table is a `boot` in its place
  pub unmoved : is_edition2 text ≡ true → moved ≡ network
  pub admits : admission text ≡ admitted (stats network)
  pub recounted : admission other ≡ admission text
  -- and it can be converted back
  pub back : List ℕ
  pub goes_back : convert other ≡ Good back

abbrev pub Converts : Type 0
Converts = (text other : List ℕ) → convert text ≡ Good other → Converted text other

-- ---- there_and_back, second_trip, plain_trip: further trips.

-- From edition 2 and back is the identity.
abbrev pub ThereAndBack : Type 0
ThereAndBack = (text other : List ℕ) → is_edition2 text ≡ true → convert text ≡ Good other → convert other ≡ Good text

-- A plain text's second trip to edition 2 and back changes no byte.
abbrev pub SecondTrip : Type 0
SecondTrip = (text second back : List ℕ) → is_edition2 text ≡ false → convert text ≡ Good second → convert second ≡ Good back → convert back ≡ Good second

-- Its first trip changes none exactly where the tables of each node stood together.
abbrev pub PlainTrip : Type 0
PlainTrip = (text second back : List ℕ) (w : Network) → is_edition2 text ≡ false → read_either text ≡ Good w → convert text ≡ Good second → convert second ≡ Good back
    → (back ≡ text) ↔ Together w.nodes

-- ---- refuses: the converter's answer is one of three, with the buffer; it refuses what admission refuses, with the same number and line, then 11.

pub data Answers (text buffer : List ℕ) : Type 0 where
  -- the text in the other edition over the buffer's front, later bytes kept
  is_written : (other : List ℕ) → convert text ≡ Good other → length other ≤ length buffer
      → converter text buffer ≡ outcome (written (length other)) (over other buffer) → Answers text buffer
  is_refused : (k line : ℕ) → admission text ≡ rejected k line → converter text buffer ≡ outcome (refused k line) buffer → Answers text buffer
  is_too_long : (other : List ℕ) → convert text ≡ Good other → length buffer < length other → converter text buffer ≡ outcome (refused 11 0) buffer → Answers text buffer

pub record Refuses (text buffer : List ℕ) : Type 0 where
  pub one_of : Answers text buffer
  pub as_admission : (k line : ℕ) → (convert text ≡ Refused k line) ↔ (admission text ≡ rejected k line)
  -- 0 comes exactly where the text in the other edition fits the buffer, 11 exactly where it is longer
  pub zero : ((converter text buffer).answer.number ≡ 0) ↔ ((other : List ℕ) × (convert text ≡ Good other) × (length other ≤ length buffer))
  pub eleven : ((converter text buffer).answer.number ≡ 11) ↔ ((other : List ℕ) × (convert text ≡ Good other) × (length buffer < length other))
