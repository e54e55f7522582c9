-- What an entry answers and what it leaves in its answer buffer (document 01, "Refused with").
use Rattle.std.specs.Prelude.{List, ℕ}

-- Accepted: number 0 and the count of bytes written. Refused: a number and a line.
pub record Answer : Type 0 where
  pub number : ℕ
  pub line : ℕ
  pub count : ℕ

abbrev pub written : ℕ → Answer
written n = record { number = 0; line = 0; count = n }

abbrev pub refused : ℕ → ℕ → Answer
refused k l = record { number = k; line = l; count = 0 }

pub record Outcome : Type 0 where
  pub answer : Answer
  pub buffer : List ℕ

abbrev pub outcome : Answer → List ℕ → Outcome
outcome a b = record { answer = a; buffer = b }
