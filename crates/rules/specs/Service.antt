-- The service program (document 01, "Service program"; docs/DECISIONS.md, 22 to 24): the whole output for a whole input.
use Rattle.std.specs.Prelude.{Bool, List, [], ◌∷◌, ◌++◌, ℕ, leb, eqb, length, take, replicate}
use Rattle.laws.specs.Test.{if◌then◌otherwise◌}
use Rattle.rules.specs.CircuitText.{same_name}
use Rattle.rules.specs.Form.{bytes, lines}
use Rattle.rules.specs.Mapper.{mapper}
use Rattle.rules.specs.Outcome.{Outcome}
use Rattle.rules.specs.Writing.{digits}

-- The line that closes a job, and an answer: with its newline, and with nothing else.
unfoldable pub end_line : List ℕ
end_line = bytes "(end)\n"

unfoldable pub is_end : List ℕ → Bool
is_end l = same_name l end_line

-- `(no NUMBER LINE)`
unfoldable pub refusal_text : ℕ → ℕ → List ℕ
refusal_text number line = bytes "(no " ++ digits number ++ bytes " " ++ digits line ++ bytes ")\n"

-- An answer is a network or `(no NUMBER LINE)`.
unfoldable pub answer_text : Outcome → List ℕ
answer_text o = if eqb o.answer.number 0 then take o.answer.count o.buffer otherwise refusal_text o.answer.number o.answer.line

-- The mapper's answer to a job. The answer buffer has 65,536 bytes; what they were does not matter (crates/mapped, service-answer).
unfoldable pub mapper_answer : List ℕ → List ℕ
mapper_answer job = answer_text (mapper job (replicate 65536 0))

-- Input that stops after bytes but before an `(end)` gets `(no 1 0)` as its last answer: `job` is what came after the last `(end)`.
unfoldable pub last_answer : List ℕ → List ℕ
last_answer [] = []
last_answer (b ∷ job) = refusal_text 1 0 ++ end_line

-- `answer` is what a job within the limit gets.
module _ (answer : List ℕ → List ℕ) where
  -- A job over 32,768 bytes, its `(end)` line not counted, gets `(no 3 0)`. Then comes `(end)`.
  unfoldable pub reply : List ℕ → List ℕ
  reply job = (if leb (length job) 32768 then answer job otherwise refusal_text 3 0) ++ end_line

  -- The output for these lines, where `job` came before them. The mapper gets a job without its `(end)`, and the next starts after it.
  unfoldable pub served : List ℕ → List (List ℕ) → List ℕ
  served job [] = last_answer job
  served job (l ∷ ls) = if is_end l then reply job ++ served [] ls otherwise served (job ++ l) ls

  unfoldable pub service_with : List ℕ → List ℕ
  service_with s = served [] (lines s)

-- What the program prints.
unfoldable pub service : List ℕ → List ℕ
service = service_with mapper_answer
