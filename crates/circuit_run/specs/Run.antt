-- The run, gate by gate and output by output.
use Rattle.std.specs.Prelude.{◌≡◌, refl, true, false, List, [], ◌∷◌, ◌++◌, map, ℕ, ◌+◌, ◌<◌, ◌≤◌, length, get_or, drop, set}
use Rattle.std.proofs.Common.{sym, ap, ◌∙◌, arith, add-one, drop-cons}
use Rattle.std.proofs.lemmas.List.{length-map, get_or-map}
use Rattle.std.proofs.Math.ListN.{drop_of_length-le}
use Rattle.laws.specs.Front.{Filling, filling_step}
use Rattle.laws.specs.Over.{over, front-over}
use Rattle.forms.specs.declared.Output.{Output}
use Rattle.forms.specs.Forms.{output_of}
use Rattle.std.proofs.Math.Option.{some}
use Rattle.std.proofs.Math.Dec.{eqb→eq}
use borrow.Author.Tests.{le-ltb, lt-ltb}
use Rattle.laws.specs.Test.{is_T, both_left}
use Rattle.rules.specs.Circuit.{wire_bit, gate_bit, gate_values}
use Rattle.rules.specs.Outcome.{written}
use Rattle.rules.specs.Runs.{Numbered, NotBits, NoRoom, ran, bits_for, run_on, with_values}
use Rattle.circuit.specs.declared.Gate.{Gate}
use Rattle.circuit.specs.View.{gate_of}

-- The nodes' bits, with those of the gates from gate i on.
unfoldable pub values_from : List ℕ → List Gate → ℕ → List ℕ
values_from values gates i = gate_values values (map gate_of (drop i gates))

pub values_next : (values : List ℕ) (gates : List Gate) (i : ℕ) (d : Gate) → i < length gates
    → values_from (values ++ (gate_bit values (gate_of (get_or gates i d)) ∷ [])) gates (i + 1) ≡ values_from values gates i
unfolding values_from gate_values
values_next values gates i d h = rw (add-one, drop-cons gates i d h)

pub values_start : (bits : List ℕ) (gates : List Gate) → values_from bits gates 0 ≡ gate_values bits (map gate_of gates)
unfolding values_from
values_start bits gates = refl

pub values_done : (values : List ℕ) (gates : List Gate) (i : ℕ) → length gates ≤ i → values_from values gates i ≡ values
unfolding values_from gate_values
values_done values gates i h = rw (drop_of_length-le gates h)

-- One bit an output.
unfoldable pub output_bits : List ℕ → List Output → List ℕ
output_bits values outputs = map (λ o. wire_bit values o.wire) (map output_of outputs)

module _ (values : List ℕ) (outputs : List Output) where
  pub outputs_many : length (output_bits values outputs) ≡ length outputs
  unfolding output_bits
  outputs_many = simp length-map

  output-at : (i : ℕ) (d : Output) → i < length outputs → wire_bit values (get_or outputs i d).wire ≡ get_or (output_bits values outputs) i 0
  unfolding output_bits
  output-at i d h = sym (get_or-map _ (map output_of outputs) i (output_of d) 0 (simp length-map h) ∙ ap (λ o. wire_bit values o.wire) (get_or-map output_of outputs i d _ h))

  module _ (old t : List ℕ) (i : ℕ) (f : Filling (output_bits values outputs) old t i) (room : length outputs ≤ length old) where
    pub outputs_next : (v : ℕ) (d : Output) → v ≡ wire_bit values (get_or outputs i d).wire → i < length outputs → Filling (output_bits values outputs) old (set t i v) (i + 1)
    outputs_next v d e h = filling_step (output_bits values outputs) old t i v 0 f (e ∙ output-at i d h) (omega (arith, outputs_many)) (omega arith)

    pub outputs_done : length outputs ≡ i → t ≡ over (output_bits values outputs) old
    outputs_done e = f.so_far ∙ front-over (output_bits values outputs) old i (omega (arith, outputs_many)) (omega (arith, outputs_many))

-- ---- The run as an entry.

module _ (n k : ℕ) (bits buffer values : List ℕ) where
  pub bad_bits : bits_for n bits ≡ false → ran NotBits buffer ≡ run_on n k bits buffer (some values)
  unfolding run_on
  bad_bits e = rw e

  module _ (e : bits_for n bits ≡ true) where
    pub no_room : length buffer < k → ran NoRoom buffer ≡ run_on n k bits buffer (some values)
    unfolding run_on
    no_room h = rw (e, lt-ltb (length buffer) k h)

    pub ran_on : k ≤ length buffer → length values ≡ k → ran (Numbered (written k)) (over values buffer) ≡ run_on n k bits buffer (some values)
    unfolding run_on with_values
    ran_on h f = rw (e, le-ltb (length buffer) k h, f)

pub as_many : (n : ℕ) (bits : List ℕ) → bits_for n bits ≡ true → length bits ≡ n
unfolding bits_for
as_many n bits e = eqb→eq (length bits) n (is_T _ (both_left _ _ e))
