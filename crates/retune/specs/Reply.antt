-- What a call answers, in the definition's words, and the text that it reads.
use Rattle.std.specs.Prelude as P
use Rattle.std.specs.Prelude.{◌≡◌, List, ℕ, ◌≤◌, length}
use Rattle.rules.specs.Circuit.{Circuit}
use Rattle.rules.specs.CircuitText.{read_circuit}
use Rattle.rules.specs.Form.{Good}
use Rattle.rules.specs.Mapper.{map_reply}
use Rattle.rules.specs.Outcome.{outcome}
use Rattle.theorems.specs.SoundCircuits.{Sound}
use Rattle.theorems.specs.SoundTexts.{read_sound}
use Rattle.retuning.specs.Kept.{kept_length}
use Rattle.retuning.specs.Retune.{Retuned, made, gate_on, Unaltered}
use Rattle.retune.specs.declared.Retuned as code

abbrev pub retuned_seen : code.Retuned → List ℕ → List ℕ → Retuned
retuned_seen r out state = made (outcome (map_reply r.result) out) r.begun state

-- A text describes the circuit.
pub record IsRead (c : Circuit) : Type 0 where
  pub text : List ℕ
  pub read : read_circuit text ≡ Good c

pub is_sound : {c : Circuit} → IsRead c → Sound c
is_sound {c} h = read_sound h.text c h.read

-- Where a state may be used, nobody altered it.
abbrev pub UnalteredAt : Circuit → ℕ → List ℕ → Type 0
UnalteredAt c line state = (i : ℕ) → gate_on line c.gates ≡ P.Some i → kept_length ≤ length state → Unaltered state
