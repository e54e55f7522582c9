-- The outputs' values, one after the other.
use Rattle.std.specs.Prelude.{◌≡◌, List, map, ℕ, ◌+◌, ◌<◌, ◌≤◌, ℤ, pos, length, get_or, set}
use Rattle.std.proofs.Common.{sym, ap, ◌∙◌, arith}
use Rattle.std.proofs.lemmas.List.{length-map, get_or-map}
use Rattle.laws.specs.Front.{Filling, filling_step}
use Rattle.laws.specs.Over.{over, front-over}
use Rattle.rules.specs.Network.{wire_value, output_values}
use Rattle.forms.specs.Forms.{output_of}
use Rattle.forms.specs.declared.Output.{Output}

module _ (found : List ℤ) (outputs : List Output) where
  abbrev wanted : List ℤ
  wanted = output_values (map output_of outputs) found

  pub outputs_many : length wanted ≡ length outputs
  unfolding output_values
  outputs_many = simp length-map

  output-at : (i : ℕ) (d : Output) → i < length outputs → wire_value found (get_or outputs i d).wire ≡ get_or wanted i (pos 0)
  unfolding output_values
  output-at i d h = sym (get_or-map _ (map output_of outputs) i (output_of d) (pos 0) (simp length-map h) ∙ ap (λ o. wire_value found o.wire) (get_or-map output_of outputs i d _ h))

  module _ (old t : List ℤ) (i : ℕ) (f : Filling wanted old t i) (room : length outputs ≤ length old) where
    pub outputs_next : (v : ℤ) (d : Output) → v ≡ wire_value found (get_or outputs i d).wire → i < length outputs → Filling wanted old (set t i v) (i + 1)
    outputs_next v d e h = filling_step wanted old t i v (pos 0) f (e ∙ output-at i d h) (omega (arith, outputs_many)) (omega arith)

    pub outputs_done : length outputs ≡ i → t ≡ over wanted old
    outputs_done e = f.so_far ∙ front-over wanted old i (omega (arith, outputs_many)) (omega (arith, outputs_many))
