-- The gates from the first one on, as far as a place or to the end: what they ask, and what they leave for those behind the place.
use Rattle.std.specs.Prelude as P
use Rattle.std.specs.Prelude.{◌≡◌, refl, ⊤, List, map, ℕ, ◌+◌, ◌*◌, ◌≤◌, ◌<◌, length, get_or, take, drop}
use Rattle.std.proofs.Common.{sym, ap, subst, ◌∙◌, arith}
use Rattle.std.proofs.lemmas.List.{length-map, length-take-le, get_or-take, take-map}
use Rattle.laws.specs.Over.{over}
use Rattle.rules.specs.declared.Refusal.{Refusal}
use Rattle.rules.specs.declared.Settings.{Settings}
use Rattle.rules.specs.Circuit as C
use Rattle.rules.specs.Form.{Good, Refused}
use Rattle.rules.specs.Mapper.{used_settings, map_gates, start, map_with, map_circuit}
use Rattle.rules.specs.Refusal.{reason_number}
use Rattle.theorems.specs.SoundCircuits.{SoundSettings, Sound}
use Rattle.circuit.specs.declared.Circuit.{Circuit}
use Rattle.circuit.specs.declared.Gate.{Gate}
use Rattle.circuit.specs.View.{circuit_of, gate_of}
use Rattle.forms.specs.declared.Input as I
use Rattle.forms.specs.declared.Output as O
use Rattle.forms.specs.Forms.{given_of, output_of}
use Rattle.nodes.specs.declared.store.Store.{Store}
use Rattle.nodes.specs.Store.{store_of}
use Rattle.cone.specs.declared.Cone.{Cone}
use Rattle.gates.specs.Wired.{Wired, state_of}
use Rattle.gates.specs.Gates.{state_read, GoodFunction, GoodGates, Worked}
use Rattle.gates.specs.Start.{Started, started_count, started_is}
use Rattle.header.specs.Small.{Small}
use Rattle.keep.specs.Whole.{kept_of}
use Rattle.mapper.specs.Asked.{gates_asked}
use Rattle.mapper.specs.Entry.{used_sound}
use Rattle.restore.specs.SmallBefore.{small_before}
use Rattle.retuning.specs.Kept.{kept_bytes}
use Rattle.retuning.specs.Retune.{begun, before, kept_before}
use Rattle.restore.specs.Standing.{Reached}
use Rattle.retune.specs.Rest.{rest_of}
use Rattle.retune.specs.Served.{begun_all, kept_over}

module _ (s u : Settings) (c : Circuit) (eu : u ≡ used_settings s) where
  abbrev whole : C.Circuit
  whole = circuit_of s c

  pub used_circuit : Sound whole → Sound (circuit_of u c)
  used_circuit sound = record { settings = subst SoundSettings (sym eu) (used_sound s sound.settings); parts = sound.parts }

  module _ {store : Store} {wires : List Cone} (h : Started (map given_of c.inputs.items) store wires) where
    inputs-count : length (store_of store) ≡ length c.inputs.items
    inputs-count = started_count (map given_of c.inputs.items) store wires h ∙ length-map c.inputs.items given_of

    wires-count : length wires ≡ length c.inputs.items
    wires-count = h.wired.count ∙ length-map c.inputs.items given_of

    -- from the first one on

    pub started_reached : {p : ℕ} → Reached p c 0 store wires
    started_reached {p} = record { wired = record { count = omega (arith, wires-count); stands = h.wired.stands }; few = omega (arith, inputs-count); centred = h.centred p }

    pub afresh_is : rest_of u (map output_of c.outputs.items) (drop 0 (map gate_of c.gates.items)) (state_of store wires) ≡ map_circuit whole
    unfolding rest_of map_circuit map_with
    afresh_is =
        ap (λ v. rest_of v whole.outputs whole.gates (state_of store wires)) eu ∙ ap (rest_of (used_settings s) whole.outputs whole.gates) (started_is whole store wires h)

    pub afresh_begun : {n : ℕ} (b : ℕ) → n ≡ b + begun u (map output_of c.outputs.items) (state_of store wires) (drop 0 (map gate_of c.gates.items)) → n ≡ b + begun_all whole
    unfolding begun_all
    afresh_begun b e =
        e ∙ ap (λ v. b + begun v whole.outputs (state_of store wires) whole.gates) eu ∙ ap (λ st. b + begun (used_settings s) whole.outputs st whole.gates) (started_is whole store wires h)

    -- as far as a place

    module _ (place : ℕ) (sound : Sound whole) (l : place < length c.gates.items) (gates : List Gate) (eg : gates ≡ c.gates.items) where
      first-count : length (take place gates) ≡ place
      first-count = let n = ap length eg in length-take-le place gates (omega arith)

      pub first_room : length (store_of store) + 6 * length (take place gates) ≤ 672
      first_room =
          let f = sound.parts.inputs_fit in
          let g = sound.parts.gates_fit in
          omega (arith, inputs-count, first-count, length-map c.inputs.items given_of, length-map c.gates.items gate_of)

      pub first_good : GoodGates (length wires) (take place gates)
      first_good =
          let all = gates_asked c sound in
          record {
            few = omega (arith, wires-count, first-count, all.few);
            each = λ i d k.
                let n : length c.inputs.items + i ≡ length wires + i = omega (arith, wires-count) in
                let at : get_or c.gates.items i d ≡ get_or (take place gates) i d =
                ap (λ gs. get_or gs i d) (sym eg) ∙ sym (get_or-take place gates i d (omega (arith, first-count))) in
                subst (λ m. GoodFunction m (get_or (take place gates) i d).function) n
                (subst (λ (g : Gate). GoodFunction (length c.inputs.items + i) g.function) at (all.each i d (omega (arith, first-count))));
          }

      pub first_reached : {p : ℕ} {last : Store} {cones : List Cone} → Worked p store (6 * length (take place gates)) last cones (length wires + length (take place gates)) → Reached p c place last cones
      first_reached {p} {last} {cones} w =
          record {
            wired = let n : length wires + length (take place gates) ≡ length c.inputs.items + place = omega (arith, wires-count, first-count) in subst (Wired last cones) n w.wired;
            few = omega (arith, w.grown.most, inputs-count, first-count);
            centred = w.grown.centred.on (h.centred p);
          }

    module _ (place : ℕ) (gates : List Gate) (eg : gates ≡ c.gates.items) (outs : List O.Output) (eo : outs ≡ c.outputs.items) where
      first-are : map gate_of (take place gates) ≡ take place whole.gates
      first-are = sym (take-map gate_of place gates) ∙ ap (λ (gs : List Gate). take place (map gate_of gs)) eg

      pub first_begun : {n : ℕ} (b : ℕ) → n ≡ b + begun u (map output_of outs) (state_of store wires) (map gate_of (take place gates))
          → n ≡ b + begun (used_settings s) whole.outputs (start whole) (take place whole.gates)
      first_begun b e =
          e ∙ ap (λ v. b + begun v (map output_of outs) (state_of store wires) (map gate_of (take place gates))) eu
          ∙ ap (λ (l : List O.Output). b + begun (used_settings s) (map output_of l) (state_of store wires) (map gate_of (take place gates))) eo
          ∙ ap (λ gs. b + begun (used_settings s) whole.outputs (state_of store wires) gs) first-are
          ∙ ap (λ st. b + begun (used_settings s) whole.outputs st (take place whole.gates)) (started_is whole store wires h)

      module _ (last : Store) (cones : List Cone) (w : P.Result ⊤ Refusal)
          (is : state_read last cones w ≡ map_gates u (map output_of outs) (state_of store wires) (map gate_of (take place gates))) where
        first-is : state_read last cones w ≡ before whole place
        unfolding before
        first-is =
            is ∙ ap (λ v. map_gates v (map output_of outs) (state_of store wires) (map gate_of (take place gates))) eu
            ∙ ap (λ (l : List O.Output). map_gates (used_settings s) (map output_of l) (state_of store wires) (map gate_of (take place gates))) eo
            ∙ ap (map_gates (used_settings s) whole.outputs (state_of store wires)) first-are
            ∙ ap (λ st. map_gates (used_settings s) whole.outputs st (take place whole.gates)) (started_is whole store wires h)

        pub first_refused : (k : Refusal) → w ≡ P.Err k → before whole place ≡ Refused (reason_number k.reason) k.line
        unfolding state_read
        first_refused k e = sym first-is ∙ ap (state_read last cones) e

        pub first_mapped : (k : ⊤) → w ≡ P.Ok k → before whole place ≡ Good (state_of last cones)
        unfolding state_read
        first_mapped k e = sym first-is ∙ ap (state_read last cones) e

-- ---- laws: what is kept

module _ (s : Settings) (c : Circuit) (place : ℕ) (inputs : List I.Input) (ei : inputs ≡ c.inputs.items) (gates : List Gate) (eg : gates ≡ c.gates.items) (outs : List O.Output)
    (eo : outs ≡ c.outputs.items) where
  pub first_small : Sound (circuit_of s c) → Small s (map given_of inputs) (map gate_of (take place gates)) (map output_of outs)
  first_small sound =
      rw (ei, eo, eg) (subst (λ gs. Small s (map given_of c.inputs.items) gs (map output_of c.outputs.items)) (take-map gate_of place c.gates.items) (small_before (circuit_of s c) place sound))

  pub first_kept : (last : Store) (cones wires : List Cone) → cones ≡ wires → before (circuit_of s c) place ≡ Good (state_of last wires) → (old after : List ℕ)
      → after ≡ over (kept_bytes (kept_of s inputs (take place gates) outs last cones)) old → after ≡ kept_over (circuit_of s c) place (before (circuit_of s c) place) old
  unfolding kept_over kept_before
  first_kept last cones wires e m old after f = f ∙ rw (ei, eo, eg, e, m, take-map gate_of place c.gates.items) refl
