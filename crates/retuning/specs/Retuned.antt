-- What is proved of mapping with a kept state (document 02, S-14), for every text, line and buffer. The proofs stand in proofs/Retuned, each under the name
-- that stands over its statement here.
use Rattle.std.specs.Prelude as P
use Rattle.std.specs.Prelude.{◌≡◌, List, ◌⊎◌, ℕ, ◌<◌, ◌≤◌, length, get_or, take, drop, replicate}
use Rattle.laws.specs.Over.{over}
use Rattle.rules.specs.Circuit.{Circuit}
use Rattle.rules.specs.CircuitText.{read_circuit}
use Rattle.rules.specs.Form.{Reading, Good, Refused}
use Rattle.rules.specs.Mapper.{State, used_settings, start, mapper}
use Rattle.retuning.specs.Kept.{kept_bytes, kept_length}
use Rattle.retuning.specs.Prefix.{SamePrefix}
use Rattle.retuning.specs.Retune.{begun, gate_on, before, kept_before, retuned, Unaltered}

-- ---- retuned_same: network, refusal and line are those of mapping the text from its first gate on, whatever the buffer held.
abbrev pub RetunedSame : Type 0
RetunedSame = (text : List ℕ) (chosen : ℕ) (buffer state : List ℕ) → (retuned text chosen buffer state).mapping ≡ mapper text buffer

-- ---- refused_keeps_state: where no state is kept the buffer keeps its bytes, and mapping starts afresh.

-- How many gates mapping afresh begins.
unfoldable pub all_begun : Reading Circuit → ℕ
all_begun (Refused k line) = 0
all_begun (Good c) = begun (used_settings c.settings) c.outputs (start c) c.gates

pub data KeepsNone (text : List ℕ) (chosen : ℕ) (state : List ℕ) : Type 0 where
  TextRefused : (k line : ℕ) → read_circuit text ≡ Refused k line → KeepsNone text chosen state
  NotAGate : (c : Circuit) → read_circuit text ≡ Good c → gate_on chosen c.gates ≡ P.None → KeepsNone text chosen state
  TooShort : length state < kept_length → KeepsNone text chosen state
  RefusedBefore : (c : Circuit) (i : ℕ) → read_circuit text ≡ Good c → gate_on chosen c.gates ≡ P.Some i → (k line : ℕ) → before c i ≡ Refused k line
      → KeepsNone text chosen state

pub record Untouched (text : List ℕ) (chosen : ℕ) (buffer state : List ℕ) : Type 0 where
  pub stays : (retuned text chosen buffer state).state ≡ state
  pub counts : (retuned text chosen buffer state).begun ≡ all_begun (read_circuit text)

abbrev pub RefusedKeepsState : Type 0
RefusedKeepsState = (text : List ℕ) (chosen : ℕ) (buffer state : List ℕ) → KeepsNone text chosen state → Untouched text chosen buffer state

-- ---- keeps_or_not: else the text is read, the line is a gate's, the buffer is long enough and the gates before that one are mapped. Then a state is kept.
pub record Keeps (text : List ℕ) (chosen : ℕ) (state : List ℕ) : Type 0 where
  pub circuit : Circuit
  pub read : read_circuit text ≡ Good circuit
  pub place : ℕ
  pub is_gate : gate_on chosen circuit.gates ≡ P.Some place
  pub long : kept_length ≤ length state
  pub reached : State
  pub maps : before circuit place ≡ Good reached

abbrev pub KeepsOrNot : Type 0
KeepsOrNot = (text : List ℕ) (chosen : ℕ) (state : List ℕ) → Keeps text chosen state ⊎ KeepsNone text chosen state

unfoldable pub bytes_of : {text : List ℕ} {chosen : ℕ} {state : List ℕ} → Keeps text chosen state → List ℕ
bytes_of h = kept_bytes (kept_before h.circuit h.place h.reached)

-- The gates from the chosen one on that are begun.
unfoldable pub rest_begun : {text : List ℕ} {chosen : ℕ} {state : List ℕ} → Keeps text chosen state → ℕ
rest_begun h = begun (used_settings h.circuit.settings) h.circuit.outputs h.reached (drop h.place h.circuit.gates)

-- ---- kept_stands: afterwards the state stands at the buffer's front, whether it stood there or not.
pub record Stands (text : List ℕ) (chosen : ℕ) (buffer state : List ℕ) (h : Keeps text chosen state) : Type 0 where
  pub front : take kept_length (retuned text chosen buffer state).state ≡ bytes_of h
  pub is : (retuned text chosen buffer state).state ≡ over (bytes_of h) state

abbrev pub KeptStands : Type 0
KeptStands = (text : List ℕ) (chosen : ℕ) (buffer state : List ℕ) (h : Keeps text chosen state) → Stands text chosen buffer state h

-- ---- buffer_kept: the state buffer has the length that it had, and its bytes behind the state.
pub record BufferKept (text : List ℕ) (chosen : ℕ) (buffer state : List ℕ) : Type 0 where
  pub long : length (retuned text chosen buffer state).state ≡ length state
  pub behind : drop kept_length (retuned text chosen buffer state).state ≡ drop kept_length state

abbrev pub BuffersKept : Type 0
BuffersKept = (text : List ℕ) (chosen : ℕ) (buffer state : List ℕ) → BufferKept text chosen buffer state

-- ---- own_state_continues: where the state that belongs to the text stands in the buffer it stays, and only the chosen gate and those behind it are begun.
pub record Continues (text : List ℕ) (chosen : ℕ) (buffer state : List ℕ) (n : ℕ) : Type 0 where
  pub stays : (retuned text chosen buffer state).state ≡ state
  pub counts : (retuned text chosen buffer state).begun ≡ n
  pub mapping : (retuned text chosen buffer state).mapping ≡ mapper text buffer

abbrev pub OwnStateContinues : Type 0
OwnStateContinues = (text : List ℕ) (chosen : ℕ) (buffer state : List ℕ) (h : Keeps text chosen state) → take kept_length state ≡ bytes_of h
    → Continues text chosen buffer state (rest_begun h)

-- ---- others_afresh: with any other bytes mapping starts afresh.
abbrev pub OthersAfresh : Type 0
OthersAfresh = (text : List ℕ) (chosen : ℕ) (buffer state : List ℕ) → ((h : Keeps text chosen state) → take kept_length state ≡ bytes_of h → ⊥)
    → (retuned text chosen buffer state).begun ≡ all_begun (read_circuit text)

-- ---- left_serves, kept_serves_again: a state that a mapping left serves each text that is the same as far as the gate before which it was kept, the gates' lines
-- aside. It stays, and no gate before that one is begun.

-- The front of the buffer is the state from before one of a text's gates.
pub record HasState (state : List ℕ) : Type 0 where
  pub text : List ℕ
  pub circuit : Circuit
  pub read : read_circuit text ≡ Good circuit
  pub place : ℕ
  pub in_range : place < length circuit.gates
  pub reached : State
  pub maps : before circuit place ≡ Good reached
  pub front : take kept_length state ≡ kept_bytes (kept_before circuit place reached)

abbrev pub LeftServes : Type 0
LeftServes = (state : List ℕ) (h : HasState state) (edited : List ℕ) (line : ℕ) (buffer : List ℕ) (d : Circuit) (j : ℕ) → read_circuit edited ≡ Good d
    → gate_on line d.gates ≡ P.Some j → SamePrefix h.circuit h.place d j
    → Continues edited line buffer state (begun (used_settings d.settings) d.outputs h.reached (drop j d.gates))

abbrev pub KeptServesAgain : Type 0
KeptServesAgain = (text : List ℕ) (chosen : ℕ) (buffer state : List ℕ) (h : Keeps text chosen state) (edited : List ℕ) (line : ℕ) (again : List ℕ) (d : Circuit) (j : ℕ)
    → read_circuit edited ≡ Good d → gate_on line d.gates ≡ P.Some j → SamePrefix h.circuit h.place d j
    → Continues edited line again (retuned text chosen buffer state).state (begun (used_settings d.settings) d.outputs h.reached (drop j d.gates))

-- ---- other_prefix_afresh: with a state of another circuit prefix, other settings or other `out` lines mapping starts afresh.
abbrev pub OtherPrefixAfresh : Type 0
OtherPrefixAfresh = (state : List ℕ) (h : HasState state) (edited : List ℕ) (line : ℕ) (buffer : List ℕ) (d : Circuit) (j : ℕ) → read_circuit edited ≡ Good d
    → gate_on line d.gates ≡ P.Some j → (SamePrefix h.circuit h.place d j → ⊥) → (retuned edited line buffer state).begun ≡ all_begun (Good d)

-- ---- zeros_hold_none, none_afresh: a buffer of zeros holds no state, and where none is mapping starts afresh.
abbrev pub ZerosHoldNone : Type 0
ZerosHoldNone = (n : ℕ) → Unaltered (replicate n 0)

abbrev pub NoneAfresh : Type 0
NoneAfresh = (text : List ℕ) (chosen : ℕ) (buffer state : List ℕ) → get_or state 0 0 ≡ 0 → (retuned text chosen buffer state).begun ≡ all_begun (read_circuit text)

-- ---- left_is_unaltered: what a call leaves where it keeps a state, or where nobody had altered the buffer.
pub record LeavesUnaltered (text : List ℕ) (chosen : ℕ) (buffer state : List ℕ) : Type 0 where
  pub kept : Keeps text chosen state → Unaltered (retuned text chosen buffer state).state
  pub given : Unaltered state → Unaltered (retuned text chosen buffer state).state

abbrev pub LeftIsUnaltered : Type 0
LeftIsUnaltered = (text : List ℕ) (chosen : ℕ) (buffer state : List ℕ) → LeavesUnaltered text chosen buffer state
