-- Every answer of the mapper is one of five, and what is mapped is known by its nodes and outputs before pruning.
use Rattle.std.specs.Prelude.{◌≡◌, Bool, true, false, ◌&&◌, List, [], ◌∷◌, ◌++◌, ℕ, ◌+◌, ◌≤◌, ◌<◌, eqb}
use Rattle.std.proofs.Math.Path.{refl}
use Rattle.std.proofs.Common.{ap, subst, ◌∙◌, arith, length-append}
use Rattle.std.proofs.Math.Bool.{not}
use Rattle.std.proofs.Math.Logic.{⊎_elim}
use borrow.Author.Tests.{lt-ltb, le-ltb, not-true}
use Rattle.std.proofs.Math.ListN.{length}
use Rattle.laws.specs.Test.{if◌then◌otherwise◌, lt_or_le, zero≢one, both_left, both_right}
use Rattle.rules.specs.declared.Policy.TheVariants.{Span}
use Rattle.rules.specs.declared.Settings.{Settings}
use Rattle.rules.specs.Builder.{table_limits}
use Rattle.rules.specs.Circuit.{Gate, Circuit, gate_values}
use Rattle.rules.specs.CircuitText.{in_limits, ended, read_circuit}
use Rattle.rules.specs.Cone.{err, within_norm}
use Rattle.rules.specs.Form.{Reading, Good, Refused}
use Rattle.rules.specs.Mapper.{State, Outputs, and_then, is_basic, map_next, map_gates, map_outputs, used_settings, pruned, checked, start, finish, map_with, map_circuit, answer_with, mapper}
use Rattle.rules.specs.Network.{Network, is_linear, count, node_norm, largest}
use Rattle.rules.specs.Outcome.{outcome, refused}
use Rattle.rules.specs.Writing.{network_text}
use Rattle.theorems.specs.AdmissionExact.{circuits, circuits_regular}
use Rattle.theorems.proofs.AdmissionExact.{circuit_exact}
use Rattle.theorems.specs.Readings.{holds_from, holds_within}
use Rattle.theorems.specs.SoundCircuits.{Sound, SoundGate, SoundGates}
use Rattle.theorems.specs.SoundTexts.{read_sound, gate_sound}
use Rattle.theorems.specs.Results.{good_same, reading_then}
use Rattle.mapped.specs.Outputs.{SameOutputs, all-outputs}
use Rattle.mapped.specs.KnownGates.{Known, gates-known}
use Rattle.mapped.specs.GateStart.{start_known}
use Rattle.mapped.specs.NetworkStatements.{MapsTo}
use Rattle.mapped.specs.ReplyStatements.{Whole, is_written, is_unreadable, is_refused, is_over, is_too_long}
use Rattle.mapped.specs.GateRefusals.{Refusal, refusal-number, next_refused, gates_refused}
use Rattle.mapped.specs.Store.{net_for, Store}

-- ---- The settings that are used.

-- Basic's period and lengths are within the limits.
basic_limits : (b : Bool) → table_limits 2 (if b then 2 otherwise 4) ≡ true
unfolding table_limits
basic_limits true = refl
basic_limits false = refl

pub used_limits : (s : Settings) → in_limits s ≡ true → in_limits (used_settings s) ≡ true
unfolding used_settings in_limits
used_limits s e = by (is_basic s.policy)
  where
    by : (b : Bool)
        → in_limits (if b then record { p = 2; m = if eqb s.m s.p then 2 otherwise 4; t = s.t; norm = s.norm; policy = s.policy; many = s.many } otherwise s) ≡ true
    by true = rw (basic_limits (eqb s.m s.p)) (both_right (table_limits s.p s.m) _ e)
    by false = e

pub used_norm : (s : Settings) → (used_settings s).norm ≡ s.norm
unfolding used_settings
used_norm s = by (is_basic s.policy)
  where
    by : (b : Bool)
        → (if b then record { p = 2; m = if eqb s.m s.p then 2 otherwise 4; t = s.t; norm = s.norm; policy = s.policy; many = s.many } otherwise s).norm ≡ s.norm
    by true = refl
    by false = refl

pub used_span : (s : Settings) → s.policy ≡ Span → used_settings s ≡ s
unfolding used_settings is_basic
used_span s policy = rw policy refl

-- ---- The gates and the outputs of a circuit.

-- What is known when all outputs are mapped.
pub record Finished (s : Settings) (c : Circuit) (done : Outputs) : Type 0 where
  pub store : Store (net_for s) c.inputs done.nodes
  pub most : length done.nodes ≤ 672
  pub sums : count is_linear done.nodes ≤ 320
  pub same : SameOutputs s c.inputs done.nodes (λ bits. gate_values bits c.gates) done.outputs c.outputs

module _ (c : Circuit) (sound : Sound c) where
  abbrev s : Settings
  s = used_settings c.settings

  abbrev empty : State → Outputs
  empty st = record { nodes = st.nodes; outputs = [] }

  -- after all gates
  known : (st : State) → map_gates s c.outputs (start c) c.gates ≡ Good st
      → Known s c.inputs st (λ bits. gate_values bits c.gates) (0 + length c.gates) (length c.inputs + length c.gates)
  known st e =
      let parts = sound.parts in
      let i = parts.inputs_fit in
      let g = parts.gates_fit in
      gates-known s c.inputs (used_limits c.settings sound.settings.limits) c.outputs (start c) st (λ bits. bits) 0 (length c.inputs) c.gates
      (start_known s c parts.different parts.weights i) parts.gates_sound i (omega arith) e

  -- when a gate is reached, and of that gate
  pub reached_known : (before after : List Gate) (g : Gate) (st : State) → c.gates ≡ before ++ (g ∷ after) → map_gates s c.outputs (start c) before ≡ Good st
      → Known s c.inputs st (λ bits. gate_values bits before) (0 + length before) (length c.inputs + length before)
      × SoundGate (length c.inputs + length before) g × (length before < 96)
  reached_known before after g st split e =
      let parts = sound.parts in
      let i = parts.inputs_fit in
      let m = parts.gates_fit in
      let l = ap length split ∙ length-append before (g ∷ after) in
      let z = gate_sound (length c.inputs) before g after (subst (SoundGates (length c.inputs)) split parts.gates_sound) in (
        gates-known s c.inputs (used_limits c.settings sound.settings.limits) c.outputs (start c) st (λ bits. bits) 0 (length c.inputs) before
            (start_known s c parts.different parts.weights i) z.0 i (omega arith) e,
        z.1,
        omega arith,
      )

  -- why the gate is refused
  pub gate-refusal : (before after : List Gate) (g : Gate) (st : State) (k : ℕ) → c.gates ≡ before ++ (g ∷ after) → map_gates s c.outputs (start c) before ≡ Good st
      → map_next s c.outputs st g ≡ err k → Refusal s c.inputs k
  gate-refusal before after g st k split e q =
      let z = reached_known before after g st split e in
      let l = z.2 in
      next_refused s c.inputs (used_limits c.settings sound.settings.limits) c.outputs st (λ bits. gate_values bits before) (0 + length before)
      (length c.inputs + length before) g k z.0 z.1 sound.parts.inputs_fit (omega arith) q

  done_known : (st : State) → map_gates s c.outputs (start c) c.gates ≡ Good st → Finished s c (map_outputs s st.cones (empty st) c.outputs)
  done_known st e =
      let parts = sound.parts in
      let i = parts.inputs_fit in
      let g = parts.gates_fit in
      let o = parts.outputs_fit in
      let k = known st e in
      let m = k.most in
      let z = k.sums in
      let r = all-outputs s c.inputs (used_limits c.settings sound.settings.limits) st.cones (λ bits. gate_values bits c.gates)
      (length c.inputs + length c.gates) 608 288 st.nodes c.outputs
      k.store (omega arith) (omega arith) k.cones parts.outputs_sound (omega arith) in
      let m' = r.most in
      let z' = r.sums in
      record { store = r.store; most = omega arith; sums = omega arith; same = r.same }

-- ---- A circuit that is mapped.

pub checked_same : (s : Settings) (v w : Network) → checked s v ≡ Good w → v ≡ w
unfolding checked
checked_same s v w = by (is_basic s.policy && not (within_norm s (largest (node_norm v.nodes) v.nodes)))
  where
    by : (b : Bool) → (if b then Refused 8 0 otherwise Good v) ≡ Good w → v ≡ w
    by true e = absurd (zero≢one (cc))
    by false e = good_same v w e

-- It is the pruned network of what its gates and outputs gave.
pub record Comes (text : List ℕ) (w : Network) : Type 0 where
  pub circuit : Circuit
  pub read : read_circuit text ≡ Good circuit
  pub state : State
  pub gates : map_gates (used_settings circuit.settings) circuit.outputs (start circuit) circuit.gates ≡ Good state
  pub done : Outputs
  pub outputs : map_outputs (used_settings circuit.settings) state.cones (record { nodes = state.nodes; outputs = [] }) circuit.outputs ≡ done
  pub is : pruned (used_settings circuit.settings) done ≡ w
  pub finished : Finished (used_settings circuit.settings) circuit done

pub comes : (text : List ℕ) (w : Network) → MapsTo text w → Comes text w
unfolding map_circuit map_with finish
comes text w e =
    let r = reading_then (read_circuit text) map_circuit w e in
    let c = r.0 in
    let s = used_settings c.settings in
    let sound = read_sound text c r.1 in
    let p = reading_then (map_gates s c.outputs (start c) c.gates) (finish s c.outputs) w r.2 in
    let st = p.0 in
    let done = map_outputs s st.cones (record { nodes = st.nodes; outputs = [] }) c.outputs in
    record {
      circuit = c;
      read = r.1;
      state = st;
      gates = p.1;
      done = done;
      outputs = refl;
      is = checked_same s (pruned s done) w p.2;
      finished = done_known c sound st p.1;
    }

-- ---- Every answer.

module _ (text buffer : List ℕ) where
  -- an answer to a network that was mapped
  network_whole : (w : Network) → MapsTo text w → Whole text buffer
  unfolding mapper answer_with
  network_whole w e =
      ⊎_elim (λ (l : length buffer < length (network_text w)). is_too_long w e l (rw (e, lt-ltb (length buffer) (length (network_text w)) l) refl))
      (λ (l : length (network_text w) ≤ length buffer). is_written w e l (rw (e, le-ltb (length buffer) (length (network_text w)) l) refl))
      (lt_or_le (length buffer) (length (network_text w)))

  pub refusal : (k line : ℕ) → and_then (read_circuit text) map_circuit ≡ Refused k line → mapper text buffer ≡ outcome (refused k line) buffer
  unfolding mapper answer_with
  refusal k line e = rw e refl

  text_whole : (k line : ℕ) → read_circuit text ≡ Refused k line → Whole text buffer
  unfolding and_then circuits
  text_whole k line e =
      let first = ((circuit_exact text).refused k line).0 e in
      let within = holds_within circuits ended 1 7 circuits_regular text k line first.holds in
      is_unreadable k line e within.0 within.1 (holds_from circuits ended 1 7 circuits_regular text k line first.holds) (refusal k line (rw e refl))

  module _ (c : Circuit) (read : read_circuit text ≡ Good c) where
    gates-whole : (k line : ℕ) → map_gates (used_settings c.settings) c.outputs (start c) c.gates ≡ Refused k line → Whole text buffer
    unfolding and_then map_circuit map_with
    gates-whole k line e =
        let s = used_settings c.settings in
        let r = gates_refused s c.outputs (start c) c.gates k line e in
        let sound = read_sound text c read in
        let g = (reached_known c sound r.before r.after r.gate r.state r.are r.reached).1 in
        let l = refusal-number s c.inputs k (gate-refusal c sound r.before r.after r.gate r.state k r.are r.reached r.refuses) in
        is_refused c r.before r.after r.gate r.state k read r.are r.reached r.refuses l.0 l.1 g.placed
        (refusal k r.gate.line (rw (read, e, r.at) refl))

    over_or_not : (st : State) (done : Outputs) → map_gates (used_settings c.settings) c.outputs (start c) c.gates ≡ Good st
        → map_outputs (used_settings c.settings) st.cones (record { nodes = st.nodes; outputs = [] }) c.outputs ≡ done → Whole text buffer
    unfolding and_then map_circuit map_with finish checked
    over_or_not st done e q = by (is_basic s.policy && not (within_norm s (largest (node_norm (pruned s done).nodes) (pruned s done).nodes))) refl
      where
        s : Settings
        s = used_settings c.settings

        by : (b : Bool) → (is_basic s.policy && not (within_norm s (largest (node_norm (pruned s done).nodes) (pruned s done).nodes))) ≡ b → Whole text buffer
        by true t =
            is_over c st done read e q (both_left (is_basic s.policy) _ t)
            (not-true (within_norm s (largest (node_norm (pruned s done).nodes) (pruned s done).nodes)) (both_right (is_basic s.policy) _ t)) (refusal 8 0 (rw (read, e, q, t) refl))
        by false t = network_whole (pruned s done) (rw (read, e, q, t) refl)

    circuit_whole : (r : Reading State) → map_gates (used_settings c.settings) c.outputs (start c) c.gates ≡ r → Whole text buffer
    circuit_whole (Refused k line) e = gates-whole k line e
    circuit_whole (Good st) e = over_or_not st _ e refl

  pub whole : Whole text buffer
  whole = by (read_circuit text) refl
    where
      by : (r : Reading Circuit) → read_circuit text ≡ r → Whole text buffer
      by (Refused k line) e = text_whole k line e
      by (Good c) e = circuit_whole c e (map_gates (used_settings c.settings) c.outputs (start c) c.gates) refl
