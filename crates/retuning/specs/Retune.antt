-- Mapping with a state that may be kept before a chosen gate (document 02, S-14).
use Rattle.std.specs.Prelude as P
use Rattle.std.specs.Prelude.{◌≡◌, Bool, List, [], ◌∷◌, ℕ, ◌+◌, ◌<◌, eqb, ltb, length, get_or, take, drop, position}
use Rattle.laws.specs.Over.{over}
use Rattle.laws.specs.Test.{if◌then◌otherwise◌}
use Rattle.rules.specs.declared.Settings.{Settings}
use Rattle.rules.specs.Circuit.{Gate, Output, Circuit}
use Rattle.rules.specs.CircuitText.{same_name, read_circuit}
use Rattle.rules.specs.Cone.{Result, ok, err}
use Rattle.rules.specs.Form.{Reading, Good, Refused}
use Rattle.rules.specs.Mapper.{State, map_next, map_gates, used_settings, start, map_circuit, answer_with}
use Rattle.rules.specs.Outcome.{Outcome, outcome, refused}
use Rattle.retuning.specs.Kept.{Kept, kept_bytes, kept_length}

-- ---- The gates whose mapping begins.

unfoldable pub or_none : Result State → (State → ℕ) → ℕ
or_none (ok st) next = next st
or_none (err k) next = 0

-- One that is refused was begun, and none behind it is.
unfoldable pub begun : Settings → List Output → State → List Gate → ℕ
begun s outputs st [] = 0
begun s outputs st (g ∷ gs) = 1 + or_none (map_next s outputs st g) (λ r. begun s outputs r gs)

-- ---- The chosen gate, and what is kept before it.

-- Its place among the gates.
unfoldable pub gate_on : ℕ → List Gate → P.Option ℕ
gate_on line gates = position (λ (g : Gate). eqb g.line line) gates

-- What the gates before it give.
unfoldable pub before : Circuit → ℕ → Reading State
before c i = map_gates (used_settings c.settings) c.outputs (start c) (take i c.gates)

unfoldable pub kept_before : Circuit → ℕ → State → Kept
kept_before c i st = record { settings = c.settings; inputs = c.inputs; gates = take i c.gates; outputs = c.outputs; state = st }

-- ---- The call.

-- Reply and answer buffer, as the mapper's; the count of gates whose mapping the call began; the state buffer.
pub record Retuned : Type 0 where
  pub mapping : Outcome
  pub begun : ℕ
  pub state : List ℕ

abbrev pub made : Outcome → ℕ → List ℕ → Retuned
made m n state = record { mapping = m; begun = n; state = state }

-- Mapping afresh, from the first gate on.
unfoldable pub afresh : Circuit → List ℕ → List ℕ → Retuned
afresh c buffer state =
    made (answer_with buffer (map_circuit c)) (begun (used_settings c.settings) c.outputs (start c) c.gates) state

-- The gates before the chosen one are mapped, or the state that they gave stands in the buffer already: then only the others are begun. Either way it stands
-- there afterwards, and the answer is that of mapping afresh.
unfoldable pub retuned_from : Circuit → ℕ → Reading State → List ℕ → List ℕ → Retuned
retuned_from c i (Refused k line) buffer state = afresh c buffer state
retuned_from c i (Good st) buffer state =
    let kept = kept_bytes (kept_before c i st) in
    let n = if same_name (take kept_length state) kept then begun (used_settings c.settings) c.outputs st (drop i c.gates)
    otherwise begun (used_settings c.settings) c.outputs (start c) c.gates in
    made (answer_with buffer (map_circuit c)) n (over kept state)

-- No gate is chosen, or the buffer is too short: its bytes are kept.
unfoldable pub retuned_at : Circuit → P.Option ℕ → List ℕ → List ℕ → Retuned
retuned_at c P.None buffer state = afresh c buffer state
retuned_at c (P.Some i) buffer state =
    if ltb (length state) kept_length then afresh c buffer state otherwise retuned_from c i (before c i) buffer state

unfoldable pub retuned_on : Reading Circuit → ℕ → List ℕ → List ℕ → Retuned
retuned_on (Refused k line) chosen buffer state = made (outcome (refused k line) buffer) 0 state
retuned_on (Good c) chosen buffer state = retuned_at c (gate_on chosen c.gates) buffer state

-- The text, the chosen line, the answer buffer and the state buffer.
unfoldable pub retuned : List ℕ → ℕ → List ℕ → List ℕ → Retuned
retuned text chosen buffer state = retuned_on (read_circuit text) chosen buffer state

-- ---- What the request decides.

-- No state is there, as in a buffer of zeros; or one as a mapping left it, of any text and before any of its gates.
pub data Unaltered (state : List ℕ) : Type 0 where
  NoState : get_or state 0 0 ≡ 0 → Unaltered state
  Left : (text : List ℕ) (c : Circuit) → read_circuit text ≡ Good c → (i : ℕ) → i < length c.gates → (st : State) → before c i ≡ Good st
      → take kept_length state ≡ kept_bytes (kept_before c i st) → Unaltered state

-- Whatever the buffer holds, where the text is refused, the line is no gate, or the buffer is too short; else what nobody altered.
pub data Decided (text : List ℕ) (chosen : ℕ) (state : List ℕ) : Type 0 where
  Unreadable : (k line : ℕ) → read_circuit text ≡ Refused k line → Decided text chosen state
  NoGate : (c : Circuit) → read_circuit text ≡ Good c → gate_on chosen c.gates ≡ P.None → Decided text chosen state
  Short : length state < kept_length → Decided text chosen state
  Intact : Unaltered state → Decided text chosen state
