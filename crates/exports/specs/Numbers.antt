-- The answers as numbers: what each place of the reply structs holds.
use Rattle.std.specs.Prelude.{List, ℕ, length, pos, Result, Ok, Err}
use Rattle.std.proofs.Math.Option.{Option, none, some}
use Rattle.rules.specs.Builder.{TableAnswer}
use Rattle.rules.specs.Outcome.{Answer, written, refused, outcome}
use Rattle.rules.specs.Admission.{Admission}
use Rattle.rules.specs.Phase.{SlotAnswer}
use Rattle.rules.specs.Runs.{RunAnswer, Numbered, NotBits, NoRoom, BreakOff, RunOutcome, ran}
use Rattle.rules.specs.declared.Stats.{Stats}
use Rattle.rules.specs.Workers.{TrialReply}
use Rattle.rules.specs.SumReading.{SumReading, Shown, NoneGives, Refused, SumAnswer}
use Rattle.rules.specs.declared.Refusal.{Refusal as Turned}
use Rattle.rules.specs.Grades.{OnesReply, Ones, OnesAnswer, ValuesReply, Values, ValuesAnswer}
use Rattle.rules.specs.Refusal.{reason_number}
use Rattle.retuning.specs.Retune.{Retuned, made}
use Rattle.value_counts.specs.declared.ValueCounts.{ValueCounts}
use Rattle.exports.specs.declared.FbsReply.{FbsReply}
use Rattle.exports.specs.declared.FbsRetuned.{FbsRetuned}
use Rattle.exports.specs.declared.FbsAdmission.{FbsAdmission}
use Rattle.exports.specs.declared.FbsSum.{FbsSum}
use Rattle.exports.specs.declared.FbsSlot.{FbsSlot}
use Rattle.exports.specs.declared.FbsTable.{FbsTable}
use Rattle.exports.specs.declared.FbsTrial.{FbsTrial}
use Rattle.exports.specs.declared.FbsValues.{FbsValues}

-- Number, line and count, place by place.
abbrev pub answer : FbsReply → Answer
answer r = record { number = r.number; line = r.line; count = r.count }

abbrev pub table_answer : FbsTable → TableAnswer
table_answer r = record { number = r.number; line = r.line; count = r.count; centre = r.centre }

abbrev pub mapping_answer : FbsRetuned → Answer
mapping_answer r = record { number = r.number; line = r.line; count = r.count }

-- The reply with both buffers as they are left.
abbrev pub retuned_numbers : FbsRetuned → List ℕ → List ℕ → Retuned
retuned_numbers r out state = made (outcome (mapping_answer r) out) r.begun state

abbrev pub trial_numbers : FbsTrial → TrialReply
trial_numbers r = record { number = r.number; line = r.line; count = r.count; ticks = r.ticks }

-- The three ends of a run that document 01 has no number for, numbered from 100 on; line 0.
unfoldable pub run_numbers : RunAnswer → Answer
run_numbers (Numbered a) = a
run_numbers NotBits = refused 100 0
run_numbers NoRoom = refused 101 0
run_numbers BreakOff = refused 102 0

-- A run's outcome with a number in every case; the buffer is as it was left.
unfoldable pub numbered : {A : Type 0} → RunOutcome A → RunOutcome A
numbered o = ran (Numbered (run_numbers o.answer)) o.buffer

-- A refusal has no statistics: 0 in each of their places.
unfoldable pub statistics : Option Stats → Stats
statistics none = record { inputs = 0; sums = 0; boots = 0; sources = 0; longest = 0; norm = 0; outputs = 0; depth = 0; centre0 = 0; centre1 = 0; centre2 = 0 }
statistics (some s) = s

unfoldable pub admission_numbers : Admission → FbsAdmission
admission_numbers a =
    let s = statistics a.stats in
    record {
      number = a.number;
      line = a.line;
      inputs = s.inputs;
      sums = s.sums;
      boots = s.boots;
      sources = s.sources;
      longest = s.longest;
      norm = s.norm;
      outputs = s.outputs;
      depth = s.depth;
      centre0 = s.centre0;
      centre1 = s.centre1;
      centre2 = s.centre2;
    }

-- A wanted sum that no bits give: 103, a number of ours, line 0.
unfoldable pub sum_numbers : SumReading → Answer
sum_numbers (Shown bits) = written (length bits)
sum_numbers NoneGives = refused 103 0
sum_numbers (Refused k i) = refused k i

unfoldable pub sum_places : SumAnswer → FbsSum
sum_places a =
    let n = sum_numbers a.reply in
    record { number = n.number; line = n.line; count = n.count; bits = a.bits }

abbrev pub slot_numbers : SlotAnswer → FbsSlot
slot_numbers a = record { number = a.number; line = a.line; slot = a.slot }

-- A reply, and the caller's places as they are left.
pub record Placed (R : Type 0) : Type 0 where
  pub reply : R
  pub counts : List ℕ

abbrev pub placed : {R : Type 0} → R → List ℕ → Placed R
placed r c = record { reply = r; counts = c }

-- The numbers of the outputs stand in the places: the reply has their count.
unfoldable pub ones_numbers : OnesReply → Answer
ones_numbers (Ones counts) = written (length counts)
ones_numbers (OnesReply.Refused k i) = refused k i

unfoldable pub ones_placed : OnesAnswer → Placed Answer
ones_placed a = placed (ones_numbers a.reply) a.counts

-- Those of the values likewise, and the least sum is in the reply.
unfoldable pub values_numbers : ValuesReply → FbsValues
values_numbers (Values least counts) = record { number = 0; line = 0; count = length counts; least = least }
values_numbers (ValuesReply.Refused k i) = record { number = k; line = i; count = 0; least = pos 0 }

unfoldable pub values_placed : ValuesAnswer → Placed FbsValues
values_placed a = placed (values_numbers a.reply) a.counts

-- The reply of the code.
abbrev pub values_reply : Result ValueCounts Turned → FbsValues
values_reply (Ok v) = record { number = 0; line = 0; count = v.count; least = v.least }
values_reply (Err r) = record { number = reason_number r.reason; line = r.line; count = 0; least = pos 0 }
