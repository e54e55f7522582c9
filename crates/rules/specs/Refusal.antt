-- The refusals by their numbers (document 01, "Refused with"; document 02).
use Rattle.std.specs.Prelude.{ℕ, ◌<◌, Result, Ok, Err}
use Rattle.std.proofs.Common.{arith}
use Rattle.rules.specs.declared.Reason.{Reason}
use Rattle.rules.specs.declared.Reason.TheVariants.{NoForm, BadSettings, TooMany, OutOfOrder, RepeatedName, NoEarlierNode, BadGate, OverNorm, NoComposition, ShortBuffer, BadLine, BadSource, BadLength, NoRotation, SumOverNorm, NoBit, BadLengths, SpanOverM, Conflict, NoCompletion, ShortTable, NoSum, BadPeriod, BadValue, OtherCentre, SecondLine, TooManyInputs, BadTrial}

abbrev pub reason_number : Reason → ℕ
reason_number NoForm = 1
reason_number BadSettings = 2
reason_number TooMany = 3
reason_number OutOfOrder = 4
reason_number RepeatedName = 5
reason_number NoEarlierNode = 6
reason_number BadGate = 7
reason_number OverNorm = 8
reason_number NoComposition = 9
reason_number ShortBuffer = 11
reason_number BadLine = 21
reason_number BadSource = 22
reason_number BadLength = 23
reason_number NoRotation = 24
reason_number SumOverNorm = 25
reason_number NoBit = 26
reason_number BadLengths = 30
reason_number SpanOverM = 31
reason_number Conflict = 32
reason_number NoCompletion = 33
reason_number ShortTable = 34
reason_number NoSum = 35
reason_number BadPeriod = 36
reason_number BadValue = 37
reason_number OtherCentre = 38
reason_number SecondLine = 39
reason_number TooManyInputs = 40
reason_number BadTrial = 41

pub reason_positive : (r : Reason) → 0 < reason_number r
reason_positive r = grind arith

-- The number that a test ends with: 0 where it turns nothing away.
abbrev pub number_met : {A : Type 0} → Result A Reason → ℕ
number_met (Ok a) = 0
number_met (Err r) = reason_number r
