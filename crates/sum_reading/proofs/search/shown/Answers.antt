use Rattle.std.proofs.Common.{◌≡◌, List, ℕ, replicate, Ok, Some, Option}
use Rattle.laws.specs.Digits.{digits, digits-length}
use Rattle.laws.specs.Over.{over, take-over}
use Rattle.rules.specs.SumReading.{sum_answer, sum_reply, shown}
use Rattle.sum_reading.specs.Rows.{row_reading}
use Rattle.sum_reading.proofs.search.shown.Goals as goal

module _ (n k : ℕ) (row : Option ℕ) where
  shown_bits : (bits : List ℕ) → row ≡ Some k → bits ≡ over (digits n k) (replicate 11 0) → sum_reply (Ok (Some (record { count = n; bits = bits }))) ≡ sum_answer (shown (row_reading n row))
  unfolding sum_answer shown row_reading
  shown_bits bits e f = rw (e, f, take-over (digits n k) (replicate 11 0) n (digits-length n k))

pub returns-clause-is : goal.returns-clause-is
returns-clause-is c = shown_bits c.args.n c.in_ok-row.field-0 c.args.row c.bits_of-bits.result c.in_ok-row.was c.bits_of-bits.ensures
