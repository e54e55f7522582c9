-- The entry: what the steps give back is what the mapper answers.
use Rattle.std.specs.Prelude as P
use Rattle.std.specs.Prelude.{◌≡◌, ⊤, true, List, map, ℕ, ◌+◌, ◌*◌, ◌≤◌, length}
use Rattle.std.proofs.Common.{refl, sym, ap, ap₂, subst, ◌∙◌, arith}
use Rattle.std.proofs.lemmas.List.{length-map}
use Rattle.rules.specs.declared.Refusal.{Refusal}
use Rattle.rules.specs.declared.Settings.{Settings}
use Rattle.rules.specs.Circuit as C
use Rattle.rules.specs.CircuitText.{in_limits, read_circuit}
use Rattle.rules.specs.Form as F
use Rattle.rules.specs.Mapper.{used_settings, and_then, map_gates, finish, map_with, map_circuit, map_reply, answer_with, mapper}
use Rattle.rules.specs.Outcome.{outcome}
use Rattle.rules.specs.Refusal.{reason_number}
use Rattle.theorems.specs.SoundCircuits.{SmallLimit, SoundSettings, Sound}
use Rattle.theorems.specs.SoundTexts.{read_sound}
use Rattle.mapped.proofs.Whole.{used_limits, used_norm}
use Rattle.circuit.specs.declared.Circuit.{Circuit}
use Rattle.circuit.specs.declared.Gate.{Gate}
use Rattle.circuit.specs.View.{circuit_of, reading_of, gate_of}
use Rattle.forms.specs.declared.Output as O
use Rattle.forms.specs.Forms.{given_of, output_of}
use Rattle.nodes.specs.declared.store.Store.{Store}
use Rattle.nodes.specs.Store.{store_of}
use Rattle.cone.specs.declared.Cone.{Cone}
use Rattle.gates.specs.Wired.{Wired, state_of}
use Rattle.gates.specs.Gates.{state_read, GoodGates, Worked}
use Rattle.gates.specs.Start.{Started, started_count, started_is}
use Rattle.mapper.specs.Asked.{gates_asked, outputs_few}

pub text_refused : (text buffer : List ℕ) (r : P.Result Settings Refusal) (c : Circuit) → reading_of r c ≡ read_circuit text → (k : Refusal) → r ≡ P.Err k → (x : P.Result ℕ Refusal) → x ≡ P.Err k
    → outcome (map_reply x) buffer ≡ mapper text buffer
unfolding mapper answer_with and_then
text_refused text buffer r c e k q x a =
    let f : F.Refused (reason_number k.reason) k.line ≡ read_circuit text = ap (λ y. reading_of y c) (sym q) ∙ e in
    ap (λ y. outcome (map_reply y) buffer) a ∙ ap (λ y. answer_with buffer (and_then y map_circuit)) f

-- the settings that are used are within their limits too
pub used_sound : (s : Settings) → SoundSettings s → SoundSettings (used_settings s)
used_sound s h = record { limits = used_limits s h.limits; small = subst SmallLimit (sym (used_norm s)) h.small }

-- a circuit that was read, with its `fbs` line
module _ (text : List ℕ) (r : P.Result Settings Refusal) (c : Circuit) (e : reading_of r c ≡ read_circuit text) (s : Settings) (q : r ≡ P.Ok s) where
  good : F.Good (circuit_of s c) ≡ read_circuit text
  good = ap (λ y. reading_of y c) (sym q) ∙ e

  pub sound : Sound (circuit_of s c)
  sound = read_sound text (circuit_of s c) (sym good)

  pub text_mapped : (buffer : List ℕ) → mapper text buffer ≡ answer_with buffer (map_circuit (circuit_of s c))
  unfolding mapper and_then
  text_mapped buffer = ap (λ y. answer_with buffer (and_then y map_circuit)) (sym good)

  module _ (u : Settings) (eu : u ≡ used_settings s) where
    used : SoundSettings u
    used = subst SoundSettings (sym eu) (used_sound s sound.settings)

    pub limits : in_limits u ≡ true
    limits = used.limits

    pub used_parts : Sound (circuit_of u c)
    used_parts = record { settings = used; parts = sound.parts }

    abbrev os : List C.Output
    os = map output_of c.outputs.items

    module _ (store : Store) (wires : List Cone) (h : Started (map given_of c.inputs.items) store wires) (last : Store) (cones : List Cone) (w : P.Result ⊤ Refusal)
        (gates : List Gate) (eg : gates ≡ c.gates.items) (outs : List O.Output) (eo : outs ≡ c.outputs.items)
        (is : state_read last cones w ≡ map_gates u (map output_of outs) (state_of store wires) (map gate_of gates)) where
      steps_are : map_circuit (circuit_of s c) ≡ and_then (state_read last cones w) (finish u os)
      unfolding map_circuit map_with
      steps_are =
          ap (λ v. map_with v (circuit_of s c)) (sym eu)
          ∙ ap (λ st. and_then (map_gates u os st (map gate_of c.gates.items)) (finish u os)) (sym (started_is (circuit_of s c) store wires h))
          ∙ ap₂ (λ l k. and_then (map_gates u (map output_of l) (state_of store wires) (map gate_of k)) (finish u os)) (sym eo) (sym eg)
          ∙ ap (λ y. and_then y (finish u os)) (sym is)

      pub gates_refused : (buffer : List ℕ) (k : Refusal) → w ≡ P.Err k → (x : P.Result ℕ Refusal) → x ≡ P.Err k → outcome (map_reply x) buffer ≡ mapper text buffer
      unfolding answer_with and_then state_read
      gates_refused buffer k f x a =
          ap (λ y. outcome (map_reply y) buffer) a
          ∙ ap (λ y. answer_with buffer (and_then (state_read last cones y) (finish u os))) (sym f)
          ∙ ap (answer_with buffer) (sym steps_are) ∙ sym (text_mapped buffer)

      module _ (k : ⊤) (f : w ≡ P.Ok k) where
        steps_done : finish u os (state_of last cones) ≡ map_circuit (circuit_of s c)
        unfolding and_then state_read
        steps_done = ap (λ y. and_then (state_read last cones y) (finish u os)) (sym f) ∙ sym steps_are

        pub mapped_is : (before buffer : List ℕ) (x : P.Result ℕ Refusal) → outcome (map_reply x) buffer ≡ answer_with before (finish u os (state_of last cones))
            → outcome (map_reply x) buffer ≡ mapper text before
        mapped_is before buffer x g = g ∙ ap (answer_with before) steps_done ∙ sym (text_mapped before)

-- what the start leaves for the gates
module _ (c : Circuit) (store : Store) (wires : List Cone) (h : Started (map given_of c.inputs.items) store wires) where
  inputs_count : length (store_of store) ≡ length c.inputs.items
  inputs_count = started_count (map given_of c.inputs.items) store wires h ∙ length-map c.inputs.items given_of

  wires_count : length wires ≡ length c.inputs.items
  wires_count = h.wired.count ∙ length-map c.inputs.items given_of

  pub inputs_wired : Wired store wires (length wires)
  inputs_wired = record { count = refl; stands = h.wired.stands }

  module _ {s : Settings} (sound : Sound (circuit_of s c)) (gates : List Gate) (e : gates ≡ c.gates.items) where
    pub gates_good : GoodGates (length wires) gates
    gates_good = rw (wires_count, e) (gates_asked c sound)

    -- six nodes a gate and two an output are no more than the store's room
    pub gates_room : length (store_of store) + 6 * length gates ≤ 672
    gates_room =
        let f = sound.parts.inputs_fit in
        let g = sound.parts.gates_fit in
        rw e (omega (arith, inputs_count, length-map c.inputs.items given_of, length-map c.gates.items gate_of))

    module _ {p : ℕ} {last : Store} {cones : List Cone} (w : Worked p store (6 * length gates) last cones (length wires + length gates)) where
      pub outputs_room : length (store_of last) + 2 * length c.outputs.items ≤ 672
      outputs_room =
          let f = sound.parts.inputs_fit in
          let g = sound.parts.gates_fit in
          omega (arith, inputs_count, w.grown.most, length-map c.inputs.items given_of, length-map c.gates.items gate_of, ap length e, outputs_few c sound)

      pub outputs_wired : Wired last cones (length c.inputs.items + length c.gates.items)
      outputs_wired = rw (wires_count, e) at w.wired
