-- The gates from a place on and the end of a mapping, from whatever state stands before them.
use Rattle.std.specs.Prelude as P
use Rattle.std.specs.Prelude.{◌≡◌, ⊤, List, [], ◌∷◌, map, ℕ, zero, suc, ◌+◌, ◌-◌, ◌*◌, ◌≤◌, ◌<◌, ◌^◌, length, get_or, take, drop}
use Rattle.std.proofs.Common.{sym, ap, subst, ◌∙◌, arith}
use Rattle.std.proofs.lemmas.List.{length-drop, get_or-drop, drop-map, take_all}
use Rattle.rules.specs.declared.Refusal.{Refusal}
use Rattle.rules.specs.declared.Settings.{Settings}
use Rattle.rules.specs.Circuit as C
use Rattle.rules.specs.Cone.{Result, ok, err}
use Rattle.rules.specs.Form.{Reading}
use Rattle.rules.specs.Mapper.{State, and_then, map_gates, map_next, finish, answer_with, map_reply}
use Rattle.rules.specs.Network.{Network}
use Rattle.rules.specs.Outcome.{outcome}
use Rattle.theorems.specs.SoundCircuits.{Sound}
use Rattle.circuit.specs.declared.Circuit.{Circuit}
use Rattle.circuit.specs.declared.Gate.{Gate}
use Rattle.circuit.specs.View.{circuit_of, gate_of}
use Rattle.forms.specs.declared.Output as O
use Rattle.forms.specs.Forms.{output_of}
use Rattle.nodes.specs.declared.store.Store.{Store}
use Rattle.nodes.specs.Store.{store_of, Centred}
use Rattle.cone.specs.declared.Cone.{Cone}
use Rattle.gates.specs.Wired.{Wired, state_of}
use Rattle.gates.specs.Gates.{state_read, GoodFunction, GoodGates}
use Rattle.mapper.specs.Asked.{gates_asked}
use Rattle.retuning.specs.Retune.{or_none, begun}
use Rattle.restore.specs.Standing.{Reached}

unfoldable pub rest_of : Settings → List C.Output → List C.Gate → State → Reading Network
rest_of s outputs gates st = and_then (map_gates s outputs st gates) (finish s outputs)

-- ---- laws: no more gates are begun than there are

pub begun_few : (s : Settings) (outputs : List C.Output) (st : State) (gs : List C.Gate) → begun s outputs st gs ≤ length gs
unfolding begun or_none
begun_few s outputs st [] = omega arith
begun_few s outputs st (g ∷ gs) = by (map_next s outputs st g) (λ r. begun_few s outputs r gs)
  where
    by : (x : Result State) → ((r : State) → begun s outputs r gs ≤ length gs) → 1 + or_none x (λ r. begun s outputs r gs) ≤ suc (length gs)
    by (ok r) next = let h = next r in omega arith
    by (err k) next = omega arith

pub begun_left_few : (s : Settings) (outputs : List C.Output) (st : State) (place : ℕ) (gs : List C.Gate) → length gs ≤ 96 → {b n : ℕ} → b ≡ 0 → n ≡ b + begun s outputs st (drop place gs) → n ≤ 96
begun_left_few s outputs st place gs h z e = omega (arith, h, z, e, begun_few s outputs st (drop place gs), length-drop place gs)

-- ---- laws: the gates that are left

module _ {s : Settings} {c : Circuit} (sound : Sound (circuit_of s c)) {place : ℕ} (h : place ≤ length c.gates.items) {p : ℕ} {store : Store} {wires : List Cone} (r : Reached p c place store wires)
    (gates : List Gate) (e : gates ≡ drop place c.gates.items) where
  left-count : place + length gates ≡ length c.gates.items
  left-count = let l = length-drop place c.gates.items in omega (arith, l, ap length e)

  pub left_good : GoodGates (length wires) gates
  left_good =
      let all = gates_asked c sound in
      record {
        few = omega (arith, r.wired.count, left-count, all.few);
        each = λ i d l.
            let n : length c.inputs.items + (place + i) ≡ length wires + i = omega (arith, r.wired.count) in
            let at : get_or c.gates.items (place + i) d ≡ get_or gates i d = sym (get_or-drop place c.gates.items i d) ∙ ap (λ gs. get_or gs i d) (sym e) in
            subst (λ m. GoodFunction m (get_or gates i d).function) n (subst (λ (g : Gate). GoodFunction (length c.inputs.items + (place + i)) g.function) at (all.each (place + i) d (omega (arith, left-count))));
      }

-- ---- laws: what comes of them

pub rest_slice : (place : ℕ) (gates items : List Gate) → gates ≡ items → take (length gates - place) (drop place gates) ≡ drop place items
rest_slice place gates items e = take_all (length gates - place) (drop place gates) (omega (arith, length-drop place gates)) ∙ ap (drop place) e

module _ (s : Settings) (c : Circuit) (place : ℕ) (store : Store) (wires : List Cone) (gates : List Gate) (e : gates ≡ drop place c.gates.items) (outs : List O.Output)
    (eo : outs ≡ c.outputs.items) where
  abbrev os : List C.Output
  os = map output_of c.outputs.items

  abbrev rest : List C.Gate
  rest = drop place (map gate_of c.gates.items)

  gates-are : map gate_of gates ≡ rest
  gates-are = ap (map gate_of) e ∙ sym (drop-map gate_of place c.gates.items)

  pub rest_begun : {n : ℕ} (b : ℕ) → n ≡ b + begun s (map output_of outs) (state_of store wires) (map gate_of gates) → n ≡ b + begun s os (state_of store wires) rest
  rest_begun b f =
      f ∙ ap (λ gs. b + begun s (map output_of outs) (state_of store wires) gs) gates-are ∙ ap (λ (l : List O.Output). b + begun s (map output_of l) (state_of store wires) rest) eo

  module _ (last : Store) (cones : List Cone) (w : P.Result ⊤ Refusal) (is : state_read last cones w ≡ map_gates s (map output_of outs) (state_of store wires) (map gate_of gates)) where
    rest-is : and_then (state_read last cones w) (finish s os) ≡ rest_of s os rest (state_of store wires)
    unfolding rest_of
    rest-is =
        ap (λ y. and_then y (finish s os)) is
        ∙ ap (λ gs. and_then (map_gates s (map output_of outs) (state_of store wires) gs) (finish s os)) gates-are
        ∙ ap (λ (l : List O.Output). and_then (map_gates s (map output_of l) (state_of store wires) rest) (finish s os)) eo

    pub rest_refused : (buffer : List ℕ) (k : Refusal) → w ≡ P.Err k → (x : P.Result ℕ Refusal) → x ≡ P.Err k
        → outcome (map_reply x) buffer ≡ answer_with buffer (rest_of s os rest (state_of store wires))
    unfolding answer_with and_then state_read
    rest_refused buffer k f x a =
        ap (λ y. outcome (map_reply y) buffer) a ∙ ap (λ y. answer_with buffer (and_then (state_read last cones y) (finish s os))) (sym f) ∙ ap (answer_with buffer) rest-is

    pub rest_finished : (k : ⊤) → w ≡ P.Ok k → (before buffer : List ℕ) (x : P.Result ℕ Refusal) → outcome (map_reply x) buffer ≡ answer_with before (finish s os (state_of last cones))
        → outcome (map_reply x) buffer ≡ answer_with before (rest_of s os rest (state_of store wires))
    unfolding and_then state_read
    rest_finished k f before buffer x g =
        g ∙ ap (λ y. answer_with before (and_then (state_read last cones y) (finish s os))) (sym f) ∙ ap (answer_with before) rest-is
