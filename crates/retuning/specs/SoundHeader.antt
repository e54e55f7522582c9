-- A circuit that was read, and the gates before a chosen one, make a good header.
use Rattle.std.specs.Prelude.{◌≡◌, true, ◌&&◌, List, [], ◌∷◌, ℕ, zero, suc, ◌+◌, ◌*◌, ◌<◌, ◌≤◌, eqb, length, get_or, take}
use Rattle.std.proofs.Common.{subst, sym, ⊎_elim, arith, eqb-true, length-take, get_or-take}
use Rattle.laws.specs.Test.{both_left, both_right, or_cases}
use Rattle.rules.specs.declared.Limit.{Limit}
use Rattle.rules.specs.declared.Limit.TheVariants.{Unlimited, AtMost}
use Rattle.rules.specs.Circuit.{Given, given_names, Gate, Output, Circuit}
use Rattle.rules.specs.CircuitText.{matching}
use Rattle.theorems.specs.SettingLimits.{least-m, limits_m, limits_t}
use Rattle.theorems.specs.SoundCircuits.{GoodNames, name_short, SmallLimit, SoundGates, SoundOutputs, Sound}
use Rattle.retuning.specs.HeaderBytes.{GoodLimit, GateShape, GoodHeader}

limit_good : (l : Limit) → SmallLimit l → GoodLimit l
unfolding SmallLimit GoodLimit
limit_good Unlimited h = tt
limit_good (AtMost k) h = omega arith

inputs_short : (is : List Given) → GoodNames (given_names is) → (i : ℕ) (d : Given) → i < length is → length (get_or is i d).name ≤ 16
unfolding GoodNames given_names
inputs_short [] n i d h = absurd (omega arith)
inputs_short (g ∷ is) n zero d h = name_short g.name n.0
inputs_short (g ∷ is) n (suc i) d h = inputs_short is n.1 i d (omega arith)

outputs_short : (n : ℕ) (os : List Output) → SoundOutputs n os → (i : ℕ) (d : Output) → i < length os → length (get_or os i d).name ≤ 16
unfolding SoundOutputs
outputs_short n [] s i d h = absurd (omega arith)
outputs_short n (o ∷ os) s zero d h = name_short o.name s.0.named
outputs_short n (o ∷ os) s (suc i) d h = outputs_short n os s.1 i d (omega arith)

gate_shape : (g : Gate) → matching g.bits g.wires ≡ true → GateShape g
unfolding matching
gate_shape g e =
    let w = length g.wires in
    let b = length g.bits in
    ⊎_elim
    (λ (f : (eqb w 1 && eqb b 2) ≡ true). sized 1 (both_left (eqb w 1) (eqb b 2) f) (both_right (eqb w 1) (eqb b 2) f) (omega arith))
    (λ (f : (eqb w 2 && eqb b 4) ≡ true). sized 2 (both_left (eqb w 2) (eqb b 4) f) (both_right (eqb w 2) (eqb b 4) f) (omega arith))
    (or_cases (eqb w 1 && eqb b 2) (eqb w 2 && eqb b 4) e)
  where
    sized : (k : ℕ) → eqb (length g.wires) k ≡ true → eqb (length g.bits) (2 * k) ≡ true → k ≤ 2 → GateShape g
    sized k e f h =
        let w : length g.wires ≡ k = eqb-true (length g.wires) k e in
        let b : length g.bits ≡ 2 * k = eqb-true (length g.bits) (2 * k) f in
        record { wires = omega (arith, w); bits = omega (arith, w, b) }

gates_shaped : (n : ℕ) (gs : List Gate) → SoundGates n gs → (i : ℕ) (d : Gate) → i < length gs → GateShape (get_or gs i d)
unfolding SoundGates
gates_shaped n [] s i d h = absurd (omega arith)
gates_shaped n (g ∷ gs) s zero d h = gate_shape g s.0.shape
gates_shaped n (g ∷ gs) s (suc i) d h = gates_shaped (suc n) gs s.1 i d (omega arith)

pub good_header : (c : Circuit) (i : ℕ) → Sound c → GoodHeader c.settings c.inputs (take i c.gates) c.outputs
good_header c i s =
    let e = s.settings.limits in
    let least = least-m c.settings e in
    let most = limits_m c.settings e in
    let inputs = limits_t c.settings e in
    let parts = s.parts in
    let few = length-take i c.gates in
    record {
      p = omega arith;
      m = omega arith;
      t = omega arith;
      norm = limit_good c.settings.norm s.settings.small;
      inputs_fit = parts.inputs_fit;
      gates_fit = omega (arith, few, parts.gates_fit);
      outputs_fit = parts.outputs_fit;
      input_names = inputs_short c.inputs parts.input_names;
      shapes = λ j d l. subst GateShape (sym (get_or-take i c.gates j d (omega (arith, few)))) (gates_shaped (length c.inputs) c.gates parts.gates_sound j d (omega (arith, few)));
      output_names = outputs_short (length c.inputs + length c.gates) c.outputs parts.outputs_sound;
    }
