-- A circuit that was read is sound: one more line, and a whole text.
use Rattle.std.specs.Prelude.{◌≡◌, refl, false, not, List, [], ◌∷◌, ◌++◌, ℕ, suc, ◌+◌, ◌≤◌, length}
use Rattle.std.proofs.Common.{sym, ap, subst, true≢false, append_assoc, append-nil, arith, leb-false}
use Rattle.std.proofs.Math.Option.{Option, none, some}
use Rattle.std.proofs.lemmas.Bool.{not-false}
use Rattle.laws.specs.Test.{is_some, zero≢one, neither_left, neither_right}
use Rattle.laws.specs.Lists.{snoc_le}
use Rattle.rules.specs.declared.Settings.{Settings}
use Rattle.rules.specs.Circuit.{Name, Given, given_names, Gate, Output, Circuit}
use Rattle.rules.specs.CircuitText.{CircuitLine, FbsLine, InLine, GateLine, OutLine, Prefix, in_limits, some?, listed, node_count, matching, conditions, with_line, ended, with_settings, nothing, read_circuit}
use Rattle.rules.specs.Form.{Good, lines}
use Rattle.theorems.specs.AdmissionExact.{circuits}
use Rattle.theorems.specs.GoodTexts.{kept}
use Rattle.theorems.specs.Readings.{NoneMet}
use Rattle.theorems.specs.Weights.{GoodWeight}
use Rattle.theorems.specs.SoundCircuits.{GoodName, GoodNames, GoodWeights, NewNames, Sound, SoundGate, SoundGates, SoundLine, SoundOutput, SoundOutputs, SoundParts, SoundSettings, line_sound}

-- ---- One more line.

pub nothing_in : {A : Type 0} (l : List A) → some? l ≡ false → l ≡ []
unfolding some?
nothing_in [] e = refl
nothing_in (x ∷ l) e = absurd (true≢false e)

names_snoc : (ns : List Name) (n : Name) → GoodNames ns → GoodName n → GoodNames (ns ++ (n ∷ []))
unfolding GoodNames
names_snoc [] n h g = (g, tt)
names_snoc (m ∷ ns) n h g = (h.0, names_snoc ns n h.1 g)

new_snoc : (before ns : List Name) (n : Name) → NewNames before ns → listed n (before ++ ns) ≡ false → NewNames before (ns ++ (n ∷ []))
unfolding NewNames
new_snoc before [] n h e = (rw append-nil at e, tt)
new_snoc before (m ∷ ns) n h e = (h.0, new_snoc (before ++ (m ∷ [])) ns n h.1 (rw append_assoc e))

weights_snoc : (gs : List Given) (g : Given) → GoodWeights gs → GoodWeight g.weight → GoodWeights (gs ++ (g ∷ []))
unfolding GoodWeights
weights_snoc [] g h k = (k, tt)
weights_snoc (x ∷ gs) g h k = (h.0, weights_snoc gs g h.1 k)

pub given_snoc : (gs : List Given) (g : Given) → given_names (gs ++ (g ∷ [])) ≡ given_names gs ++ (g.name ∷ [])
unfolding given_names
given_snoc [] g = refl
given_snoc (x ∷ gs) g = ap {B = List Name} (λ l. x.name ∷ l) (given_snoc gs g)

gates_snoc : (n : ℕ) (gs : List Gate) (g : Gate) → SoundGates n gs → SoundGate (n + length gs) g → SoundGates n (gs ++ (g ∷ []))
unfolding SoundGates
gates_snoc n [] g s h = (subst (λ k. SoundGate k g) (omega arith) h, tt)
gates_snoc n (x ∷ gs) g s h = (s.0, gates_snoc (suc n) gs g s.1 (subst (λ k. SoundGate k g) (omega arith) h))

outputs_snoc : (n : ℕ) (os : List Output) (o : Output) → SoundOutputs n os → SoundOutput n o → SoundOutputs n (os ++ (o ∷ []))
unfolding SoundOutputs
outputs_snoc n [] o s h = (h, tt)
outputs_snoc n (x ∷ os) o s h = (s.0, outputs_snoc n os o s.1 h)

SoundIf : Option Settings → Type 0
SoundIf none = Unit {0}
SoundIf (some s) = SoundSettings s

record SoundPrefix (p : Prefix) : Type 0 where
  settings : SoundIf p.settings
  parts : SoundParts p.inputs p.gates p.outputs

with_sound : (i : ℕ) (c : Prefix) (l : CircuitLine) → 1 ≤ i → SoundLine l → NoneMet (conditions c l) → SoundPrefix c → SoundPrefix (with_line i c l)
unfolding SoundLine SoundIf NoneMet conditions with_line node_count SoundGates SoundOutputs
with_sound i c (FbsLine s) from said m p =
    record { settings = record { limits = not-false (in_limits s) m.0; small = said }; parts = p.parts }
with_sound i c (InLine n) from said m p =
    let s = p.parts in
    let later = neither_right (not (is_some c.settings)) _ m.1.0 in
    let gates = nothing_in c.gates (neither_left (some? c.gates) (some? c.outputs) later) in
    let outputs = nothing_in c.outputs (neither_right (some? c.gates) (some? c.outputs) later) in
    record {
      settings = p.settings;
      parts = record {
        inputs_fit = snoc_le c.inputs n 32 (leb-false 32 (length c.inputs) m.0);
        gates_fit = s.gates_fit;
        outputs_fit = s.outputs_fit;
        input_names = subst GoodNames (sym (given_snoc c.inputs n)) (names_snoc (given_names c.inputs) n.name s.input_names said.0);
        different = subst (NewNames []) (sym (given_snoc c.inputs n)) (new_snoc [] (given_names c.inputs) n.name s.different m.1.1.0);
        weights = weights_snoc c.inputs n s.weights said.1;
        gates_sound = subst (SoundGates (length (c.inputs ++ (n ∷ [])))) (sym gates) tt;
        outputs_sound = subst (SoundOutputs (length (c.inputs ++ (n ∷ [])) + length c.gates)) (sym outputs) tt;
      };
    }
with_sound i c (GateLine b ws) from said m p =
    let s = p.parts in
    let outputs = nothing_in c.outputs (neither_right (not (is_some c.settings)) (some? c.outputs) m.1.0) in
    let g : Gate = record { bits = b; wires = ws; line = i } in
    record {
      settings = p.settings;
      parts = record {
        inputs_fit = s.inputs_fit;
        gates_fit = snoc_le c.gates g 96 (leb-false 96 (length c.gates) m.0);
        outputs_fit = s.outputs_fit;
        input_names = s.input_names;
        different = s.different;
        weights = s.weights;
        gates_sound = gates_snoc (length c.inputs) c.gates g s.gates_sound
            (record { earlier = m.1.1.0; constants = said.1; answers = said.0; shape = not-false (matching b ws) m.1.1.1.0; placed = from });
        outputs_sound = subst (SoundOutputs (length c.inputs + length (c.gates ++ (g ∷ [])))) (sym outputs) tt;
      };
    }
with_sound i c (OutLine o) from said m p =
    let s = p.parts in
    record {
      settings = p.settings;
      parts = record {
        inputs_fit = s.inputs_fit;
        gates_fit = s.gates_fit;
        outputs_fit = snoc_le c.outputs o 32 (leb-false 32 (length c.outputs) m.0);
        input_names = s.input_names;
        different = s.different;
        weights = s.weights;
        gates_sound = s.gates_sound;
        outputs_sound = outputs_snoc (length c.inputs + length c.gates) c.outputs o s.outputs_sound
            (record { named = said.0; node = m.1.1.0; constant = said.1 });
      };
    }

-- ---- A text.

at-end : (i : ℕ) (p : Prefix) (c : Circuit) → SoundPrefix p → ended i p ≡ Good c → Sound c
unfolding ended with_settings SoundIf
at-end i p c h = by p.settings h.settings
  where
    by : (o : Option Settings) → SoundIf o → with_settings i p o ≡ Good c → Sound c
    by none k e = absurd (zero≢one (cc))
    by (some s) k e =
        let q : ◌≡◌ {A = Circuit} (record { settings = s; inputs = p.inputs; gates = p.gates; outputs = p.outputs }) c = cc in
        subst Sound q (record { settings = k; parts = h.parts })

pub read_sound : (text : List ℕ) (c : Circuit) → read_circuit text ≡ Good c → Sound c
unfolding circuits read_circuit nothing SoundIf given_names GoodNames NewNames GoodWeights SoundGates SoundOutputs
read_sound text c e =
    let r = kept circuits ended (λ i p. (1 ≤ i) × SoundPrefix p) (λ i p s l f m h. (let from = h.0 in omega arith, with_sound i p l h.0 (line_sound s l f) m h.1)) 1 nothing
    (lines text) c (omega arith, none) e in
    at-end r.0 r.1 c r.2.1 r.3
  where
    none : SoundPrefix nothing
    none =
        record {
          settings = tt;
          parts = record { inputs_fit = omega arith; gates_fit = omega arith; outputs_fit = omega arith; input_names = tt; different = tt; weights = tt; gates_sound = tt; outputs_sound = tt };
        }

-- A gate among others.
pub gate_sound : (n : ℕ) (before : List Gate) (g : Gate) (after : List Gate) → SoundGates n (before ++ (g ∷ after)) → SoundGates n before × SoundGate (n + length before) g
unfolding SoundGates
gate_sound n [] g after s = (tt, subst (λ k. SoundGate k g) (omega arith) s.0)
gate_sound n (x ∷ before) g after s =
    let r = gate_sound (suc n) before g after s.1 in
    let e : suc n + length before ≡ n + suc (length before) = omega arith in
    ((s.0, r.0), subst (λ k. SoundGate k g) e r.1)
