-- The two runs as entries: a text, a byte for each input, and a buffer for one value an output.
-- Tested in turn: the text, the bits, the buffer, and of a network whether it breaks off. What is no run keeps the buffer.
use Rattle.std.specs.Prelude.{Bool, true, ◌&&◌, not, List, [], ◌∷◌, ℕ, leb, ltb, eqb, ℤ, length, Result, Ok, Err}
use Rattle.std.proofs.Math.Option.{Option, none, some}
use Rattle.laws.specs.Over.{over}
use Rattle.laws.specs.Test.{if◌then◌otherwise◌}
use Rattle.rules.specs.declared.RunError.{RunError}
use Rattle.rules.specs.declared.RunError.TheVariants.{Unreadable, BadBits, ShortBuffer, BrokenOff}
use Rattle.rules.specs.Circuit.{Circuit, circuit_run}
use Rattle.rules.specs.CircuitText.{read_circuit}
use Rattle.rules.specs.Form.{Reading, Good, Refused}
use Rattle.rules.specs.Network.{Network, is_input, count, network_run}
use Rattle.rules.specs.NetworkText.{read_network}
use Rattle.rules.specs.Outcome.{Answer, written, refused}
use Rattle.rules.specs.Refusal.{reason_number}

-- What a run answers. Document 01 numbers a text's refusal, and 0 with the count of values is the run itself; what else is no run has no number there.
pub data RunAnswer : Type 0 where
  Numbered : Answer → RunAnswer
  NotBits : RunAnswer
  NoRoom : RunAnswer
  BreakOff : RunAnswer

-- The answer, and the buffer as it is left. A circuit's values are bits, a network's whole numbers.
pub record RunOutcome (A : Type 0) : Type 0 where
  pub answer : RunAnswer
  pub buffer : List A

abbrev pub ran : {A : Type 0} → RunAnswer → List A → RunOutcome A
ran a b = record { answer = a; buffer = b }

unfoldable pub all_bits : List ℕ → Bool
all_bits [] = true
all_bits (b ∷ bs) = leb b 1 && all_bits bs

-- A bit for each of n inputs.
unfoldable pub bits_for : ℕ → List ℕ → Bool
bits_for n bits = eqb (length bits) n && all_bits bits

-- The values, one an output, later places kept.
unfoldable pub with_values : {A : Type 0} → Option (List A) → List A → RunOutcome A
with_values none buffer = ran BreakOff buffer
with_values (some values) buffer = ran (Numbered (written (length values))) (over values buffer)

-- n inputs, k outputs.
unfoldable pub run_on : {A : Type 0} → ℕ → ℕ → List ℕ → List A → Option (List A) → RunOutcome A
run_on n k bits buffer values =
    if not (bits_for n bits) then ran NotBits buffer
    otherwise if ltb (length buffer) k then ran NoRoom buffer
    otherwise with_values values buffer

unfoldable pub run_circuit_on : Reading Circuit → List ℕ → List ℕ → RunOutcome ℕ
run_circuit_on (Refused k i) bits buffer = ran (Numbered (refused k i)) buffer
run_circuit_on (Good c) bits buffer = run_on (length c.inputs) (length c.outputs) bits buffer (some (circuit_run c bits))

unfoldable pub run_circuit : List ℕ → List ℕ → List ℕ → RunOutcome ℕ
run_circuit text bits buffer = run_circuit_on (read_circuit text) bits buffer

unfoldable pub run_network_on : Reading Network → List ℕ → List ℤ → RunOutcome ℤ
run_network_on (Refused k i) bits buffer = ran (Numbered (refused k i)) buffer
run_network_on (Good w) bits buffer = run_on (count is_input w.nodes) (length w.outputs) bits buffer (network_run w bits)

unfoldable pub run_network : List ℕ → List ℕ → List ℤ → RunOutcome ℤ
run_network text bits buffer = run_network_on (read_network text) bits buffer

-- Document 01's number and values for each reply, or the end that has no number.
abbrev pub run_error : RunError → RunAnswer
run_error (Unreadable r) = Numbered (refused (reason_number r.reason) r.line)
run_error BadBits = NotBits
run_error ShortBuffer = NoRoom
run_error BrokenOff = BreakOff

abbrev pub run_reply : Result ℕ RunError → RunAnswer
run_reply (Ok n) = Numbered (written n)
run_reply (Err e) = run_error e
