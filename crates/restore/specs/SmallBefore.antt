-- Bytes hold the numbers of a circuit that was read, and of its gates before a chosen one.
use Rattle.std.specs.Prelude.{◌≡◌, false, List, [], ◌∷◌, ℕ, zero, suc, ◌+◌, ◌<◌, ◌≤◌, length, get_or, take, All}
use Rattle.std.proofs.Common.{subst, sym, arith, leb-false, length-take, get_or-take}
use Rattle.laws.specs.Test.{neither_left, neither_right}
use Rattle.rules.specs.declared.Limit.{Limit}
use Rattle.rules.specs.declared.Limit.TheVariants.{Unlimited, AtMost}
use Rattle.rules.specs.declared.Wire.{Wire}
use Rattle.rules.specs.declared.Wire.TheVariants.{Const, Node}
use Rattle.rules.specs.Circuit.{Gate, Output, Circuit}
use Rattle.rules.specs.CircuitText.{no_node, any_no_node}
use Rattle.theorems.specs.SoundCircuits.{SmallLimit, SoundGates, SoundOutputs, Sound}
use Rattle.retuning.specs.SoundHeader.{good_header}
use Rattle.cells.specs.Small.{SmallWire}
use Rattle.header.specs.Small as K
use Rattle.header.specs.Small.{Small}

limit_small : (l : Limit) → SmallLimit l → K.SmallLimit l
unfolding SmallLimit
limit_small Unlimited h = tt
limit_small (AtMost k) h = h

wire_small : (n : ℕ) (w : Wire) → n ≤ 128 → no_node n w ≡ false → SmallWire w
unfolding no_node
wire_small n (Const b) h e = tt
wire_small n (Node i) h e = let l : i < n = leb-false n i e in omega arith

wires_small : (n : ℕ) (ws : List Wire) → n ≤ 128 → any_no_node n ws ≡ false → (i : ℕ) (d : Wire) → i < length ws → SmallWire (get_or ws i d)
unfolding any_no_node
wires_small n [] h e i d l = absurd (omega arith)
wires_small n (w ∷ ws) h e zero d l = wire_small n w h (neither_left (no_node n w) _ e)
wires_small n (w ∷ ws) h e (suc i) d l = wires_small n ws h (neither_right (no_node n w) _ e) i d (omega arith)

gates_small : (n : ℕ) (gs : List Gate) → n + length gs ≤ 128 → SoundGates n gs → (i : ℕ) (d : Gate) → i < length gs → All SmallWire (get_or gs i d).wires
unfolding SoundGates
gates_small n [] h s i d l = absurd (omega arith)
gates_small n (g ∷ gs) h s zero d l = wires_small n g.wires (omega arith) s.0.earlier
gates_small n (g ∷ gs) h s (suc i) d l = gates_small (suc n) gs (omega arith) s.1 i d (omega arith)

outputs_small : (n : ℕ) (os : List Output) → n ≤ 128 → SoundOutputs n os → (i : ℕ) (d : Output) → i < length os → SmallWire (get_or os i d).wire
unfolding SoundOutputs
outputs_small n [] h s i d l = absurd (omega arith)
outputs_small n (o ∷ os) h s zero d l = wire_small n o.wire h s.0.node
outputs_small n (o ∷ os) h s (suc i) d l = outputs_small n os h s.1 i d (omega arith)

pub small_before : (c : Circuit) (i : ℕ) → Sound c → Small c.settings c.inputs (take i c.gates) c.outputs
small_before c i sound =
    let good = good_header c i sound in
    let parts = sound.parts in
    let inputs = parts.inputs_fit in
    let gates = parts.gates_fit in
    let few = length-take i c.gates in
    record {
      settings = record { p = good.p; m = good.m; t = good.t; norm = limit_small c.settings.norm sound.settings.small };
      inputs_few = good.inputs_fit;
      gates_few = good.gates_fit;
      outputs_few = good.outputs_fit;
      inputs = good.input_names;
      gates = λ j d l.
          let shape = good.shapes j d l in
          let wires = shape.wires in
          let bits = shape.bits in
          record {
            few = wires;
            bits = omega arith;
            wires = subst (λ (g : Gate). All SmallWire g.wires) (sym (get_or-take i c.gates j d (omega (arith, few))))
                (gates_small (length c.inputs) c.gates (omega arith) parts.gates_sound j d (omega (arith, few)));
          };
      outputs = λ j d l. record {
        name = good.output_names j d l;
        wire = outputs_small (length c.inputs + length c.gates) c.outputs (omega arith) parts.outputs_sound j d l;
      };
    }
