-- A state that stands in a buffer, and what a mapping has once it is read back.
use Rattle.std.specs.Prelude.{◌≡◌, List, ℕ, ◌+◌, ◌*◌, ◌≤◌, length, take}
use Rattle.rules.specs.Circuit as C
use Rattle.rules.specs.Form.{Good}
use Rattle.rules.specs.Mapper.{State}
use Rattle.retuning.specs.Kept.{kept_bytes, kept_length}
use Rattle.retuning.specs.Retune.{before, kept_before}
use Rattle.circuit.specs.declared.Circuit.{Circuit}
use Rattle.nodes.specs.declared.store.Store.{Store}
use Rattle.nodes.specs.Store.{store_of, Centred}
use Rattle.cone.specs.declared.Cone.{Cone}
use Rattle.gates.specs.Wired.{Wired}

-- The bytes of the state before the gate at a place stand at the buffer's front.
abbrev pub StandsIn : List ℕ → C.Circuit → ℕ → State → Type 0
StandsIn state c i st = (before c i ≡ Good st) × (take kept_length state ≡ kept_bytes (kept_before c i st))

-- What a mapping has before the gate at a place: a cone for each node of the circuit, and room in the store for the gates that are left.
pub record Reached (p : ℕ) (c : Circuit) (place : ℕ) (store : Store) (wires : List Cone) : Type 0 where
  pub wired : Wired store wires (length c.inputs.items + place)
  pub few : length (store_of store) ≤ length c.inputs.items + 6 * place
  pub centred : Centred p store
