-- What is proved of the network that the mapper writes, for every text and every buffer (document 01, "Rules"). Read without the proofs, which Proved puts together
-- from the other files; each statement stands under the name of its proof. Those of its replies and of the buffer: ReplyStatements.
use Rattle.std.specs.Prelude.{◌≡◌, true, List, [], ◌∷◌, ◌++◌, map, ◌⊎◌, ℕ, ◌+◌, ◌*◌, ◌^◌, ◌≤◌, ◌<◌, T, ℤ, pos, length, take}
use Rattle.std.proofs.Math.Option.{some}
use Rattle.laws.specs.Over.{over}
use Rattle.laws.specs.Test.{if◌then◌otherwise◌}
use Rattle.rules.specs.declared.Stats.{Stats}
use Rattle.rules.specs.Admission.{admitted, admission}
use Rattle.rules.specs.Circuit.{Name, Given, given_names, Output, Circuit, circuit_run}
use Rattle.rules.specs.CircuitText.{same_name, read_circuit}
use Rattle.rules.specs.Form.{Good}
use Rattle.rules.specs.Grades.{ones_of, Ones, ones, circuit_ones}
use Rattle.rules.specs.Mapper.{State, and_then, map_gates, Outputs, map_outputs, used_settings, start, map_circuit, mapper}
use Rattle.rules.specs.Network.{LutNode, Input, Linear, Bootstrap, Network, node_at, is_input, count, member, node_depth, depth, largest_depth, node_centre, has_centre, network_run}
use Rattle.rules.specs.NetworkText.{names, read_network, read_admitted}
use Rattle.rules.specs.Outcome.{written}
use Rattle.rules.specs.Runs.{bits_for, Numbered, ran, run_circuit, run_network}
use Rattle.rules.specs.Store.{number_of, intern, live, renumbered, kept_from}
use Rattle.rules.specs.Writing.{network_text}
use Rattle.theorems.specs.EarlierNodes.{Ordered}

-- The text's circuit is mapped to this network.
abbrev pub MapsTo : List ℕ → Network → Type 0
MapsTo text w = and_then (read_circuit text) map_circuit ≡ Good w

-- ---- mapped_agrees: "Mapped, for all bits".

-- The bit of the input with a name.
unfoldable pub bit_named : List Name → List ℕ → Name → ℕ
bit_named [] bits n = 0
bit_named (m ∷ ms) [] n = 0
bit_named (m ∷ ms) (b ∷ bits) n = let r = bit_named ms bits n in if same_name m n then b otherwise r

-- A network's inputs take the circuit's bits by name.
unfoldable pub bits_by_name : List Given → List ℕ → Network → List ℕ
bits_by_name inputs bits w = map (bit_named (given_names inputs) bits) (names w.nodes)

-- The inputs among nodes, in their order.
unfoldable pub inputs_of : List LutNode → List Given
inputs_of [] = []
inputs_of (Input g ∷ ns) = g ∷ inputs_of ns
inputs_of (Linear c ts ∷ ns) = inputs_of ns
inputs_of (Bootstrap i table ∷ ns) = inputs_of ns

-- Some of these, in their order: each is taken or left.
unfoldable pub SomeOf : {A : Type 0} → List A → List A → Type 0
SomeOf ns [] = ns ≡ []
SomeOf [] (m ∷ ms) = Unit {0}
SomeOf (n ∷ ns) (m ∷ ms) = ((n ≡ m) × SomeOf ns ms) ⊎ SomeOf (n ∷ ns) ms

abbrev pub output_names : List Output → List Name
output_names os = map (λ (o : Output). o.name) os

-- The bytes that were written for a circuit's text: admission answers 0; their `net` line has the circuit's NORM and the P and M really used; their inputs
-- are some of the circuit's, with their weights and in its order, and take its bits by name; the `out` lines are as many and pair off in turn, names and, for all bits, bits alike.
pub record MappedAgrees (text bytes : List ℕ) : Type 0 where
  pub circuit : Circuit
  pub read : read_circuit text ≡ Good circuit
  pub network : Network
  pub read_back : read_network bytes ≡ Good network
  pub stats : Stats
  pub admits : admission bytes ≡ admitted stats
  pub period : network.p ≡ (used_settings circuit.settings).p
  pub longest : network.m ≡ (used_settings circuit.settings).m
  pub limit : network.norm ≡ circuit.settings.norm
  pub inputs : SomeOf (inputs_of network.nodes) circuit.inputs
  pub outputs : output_names network.outputs ≡ output_names circuit.outputs
  pub agrees : (bits : List ℕ) → T (bits_for (length circuit.inputs) bits)
      → network_run network (bits_by_name circuit.inputs bits network) ≡ some (map pos (circuit_run circuit bits))
  -- the same of the two entries, with buffers that are long enough
  pub circuit_runs : (bits buffer : List ℕ) → T (bits_for (length circuit.inputs) bits) → length circuit.outputs ≤ length buffer
      → run_circuit text bits buffer ≡ ran (Numbered (written (length circuit.outputs))) (over (circuit_run circuit bits) buffer)
  pub network_runs : (bits : List ℕ) (buffer : List ℤ) → T (bits_for (length circuit.inputs) bits) → length circuit.outputs ≤ length buffer
      → run_network bytes (bits_by_name circuit.inputs bits network) buffer ≡ ran (Numbered (written (length circuit.outputs))) (over (map pos (circuit_run circuit bits)) buffer)

abbrev pub MapperAgrees : Type 0
MapperAgrees = (text buffer : List ℕ) (n : ℕ) → (mapper text buffer).answer ≡ written n → MappedAgrees text (take n (mapper text buffer).buffer)

-- ---- mapped_fits.

-- No mapped network has over 672 nodes, and its text is below 65,536 bytes: a buffer of that length never gets 11.
pub record MappedFits (text : List ℕ) : Type 0 where
  pub nodes : (w : Network) → MapsTo text w → length w.nodes ≤ 672
  pub short : (w : Network) → MapsTo text w → length (network_text w) < 65536
  pub never_11 : (buffer : List ℕ) → 65536 ≤ length buffer → (mapper text buffer).answer.number ≡ 11 → ⊥

-- ---- depth-kept, mapped_depth: the depth of a node (document 02, S-7) "is kept by building, sharing and pruning", and recounted from the text.

-- Of nodes that need earlier ones alone.
pub record DepthKept (nodes : List LutNode) : Type 0 where
  -- nodes that come after them leave their depths
  pub built : (more : List LutNode) (i : ℕ) → i < length nodes → depth (nodes ++ more) i ≡ depth nodes i
  -- a node that is interned, new or found, has the depth that its sources give
  pub shared : (x : LutNode) → depth (intern x nodes) (number_of x (intern x nodes)) ≡ node_depth (depth nodes) x
  -- a node that outputs need, under its new number, has the depth that it had
  pub pruned : (outputs : List Output) (i : ℕ) → i < length nodes → member i (live nodes outputs) ≡ true
      → depth (kept_from (live nodes outputs) 0 nodes) (renumbered (live nodes outputs) i) ≡ depth nodes i

-- The bytes that were written for a circuit's text: each node that was made and is kept has the depth that a reader of the bytes recounts at its new number, and
-- the statistics show the largest.
pub record MappedDepth (text bytes : List ℕ) : Type 0 where
  pub circuit : Circuit
  pub read : read_circuit text ≡ Good circuit
  pub state : State
  pub gates : map_gates (used_settings circuit.settings) circuit.outputs (start circuit) circuit.gates ≡ Good state
  pub done : Outputs
  pub outputs : map_outputs (used_settings circuit.settings) state.cones (record { nodes = state.nodes; outputs = [] }) circuit.outputs ≡ done
  pub ordered : Ordered done.nodes
  pub network : Network
  pub read_back : read_network bytes ≡ Good network
  pub recounted : (i : ℕ) → i < length done.nodes → member i (live done.nodes done.outputs) ≡ true
      → depth network.nodes (renumbered (live done.nodes done.outputs) i) ≡ depth done.nodes i
  pub stats : Stats
  pub admits : admission bytes ≡ admitted stats
  pub shown : stats.depth ≡ largest_depth network.nodes

abbrev pub MapperDepth : Type 0
MapperDepth = (text buffer : List ℕ) (n : ℕ) → (mapper text buffer).answer ≡ written n → MappedDepth text (take n (mapper text buffer).buffer)

-- ---- mapped_centre: the centre of a table (document 02, S-10), with the P that is used, is kept by pruning and recounted from the text.

-- The bytes that were written for a circuit's text: each node that was made and is kept has the centre that a reader of the bytes recounts at its new number
-- with the P that stands there, and the statistics count the tables of each.
pub record MappedCentre (text bytes : List ℕ) : Type 0 where
  pub circuit : Circuit
  pub read : read_circuit text ≡ Good circuit
  pub state : State
  pub gates : map_gates (used_settings circuit.settings) circuit.outputs (start circuit) circuit.gates ≡ Good state
  pub done : Outputs
  pub outputs : map_outputs (used_settings circuit.settings) state.cones (record { nodes = state.nodes; outputs = [] }) circuit.outputs ≡ done
  pub network : Network
  pub read_back : read_network bytes ≡ Good network
  pub recounted : (i : ℕ) → i < length done.nodes → member i (live done.nodes done.outputs) ≡ true
      → node_centre network.p (node_at network.nodes (renumbered (live done.nodes done.outputs) i))
      ≡ node_centre (used_settings circuit.settings).p (node_at done.nodes i)
  pub stats : Stats
  pub admits : admission bytes ≡ admitted stats
  pub shown : (stats.centre0 ≡ count (has_centre network.p 0) network.nodes)
      × (stats.centre1 ≡ count (has_centre network.p 1) network.nodes)
      × (stats.centre2 ≡ count (has_centre network.p 2) network.nodes)

abbrev pub MapperCentre : Type 0
MapperCentre = (text buffer : List ℕ) (n : ℕ) → (mapper text buffer).answer ≡ written n → MappedCentre text (take n (mapper text buffer).buffer)

-- ---- mapped_counts, settings_alike: how many assignments give 1 at each output (document 02, S-12).

-- The bytes that were written for a circuit's text: their counts, doubled once for each circuit input that pruning dropped, are those over the circuit's own
-- inputs, and they are answered where there are at most 20 inputs.
pub record MappedCounts (text bytes : List ℕ) : Type 0 where
  pub circuit : Circuit
  pub read : read_circuit text ≡ Good circuit
  pub network : Network
  pub read_back : read_admitted bytes ≡ Good network
  pub dropped : ℕ
  pub fewer : length circuit.inputs ≡ dropped + count is_input network.nodes
  pub doubled : circuit_ones circuit ≡ map (λ n. 2 ^ dropped * n) (ones_of network)
  pub answered : count is_input network.nodes ≤ 20 → ones bytes ≡ Ones (ones_of network)

abbrev pub MapperCounts : Type 0
MapperCounts = (text buffer : List ℕ) (n : ℕ) → (mapper text buffer).answer ≡ written n → MappedCounts text (take n (mapper text buffer).buffer)

-- Whichever settings mapped them: networks of circuits with as many inputs, the same gates and the same outputs have the same doubled counts.
abbrev pub SettingsAlike : Type 0
SettingsAlike = (text bytes text' bytes' : List ℕ) (a : MappedCounts text bytes) (b : MappedCounts text' bytes')
    → length a.circuit.inputs ≡ length b.circuit.inputs → a.circuit.gates ≡ b.circuit.gates → a.circuit.outputs ≡ b.circuit.outputs
    → map (λ n. 2 ^ a.dropped * n) (ones_of a.network) ≡ map (λ n. 2 ^ b.dropped * n) (ones_of b.network)
