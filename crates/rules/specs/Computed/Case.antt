-- A circuit's text and the Rust's answer to it.
use Rattle.std.specs.Prelude.{List, ℕ, length, replicate}
use Prim.Native.String.{String}
use Rattle.laws.specs.Over.{over}
use Rattle.rules.specs.Form.{bytes}
use Rattle.rules.specs.Mapper.{mapper}
use Rattle.rules.specs.Outcome.{Outcome, outcome, written, refused}

pub data Answer : Type 0 where
  network : String → Answer
  refusal : ℕ → ℕ → Answer

pub record Case : Type 0 where
  pub circuit : String
  pub answer : Answer

infix 2 ◌⇒◌
abbrev pub ◌⇒◌ : String → Answer → Case
c ⇒ a = record { circuit = c; answer = a }

-- The answer buffer before the call.
unfoldable pub buffer : List ℕ
buffer = replicate 400 7

unfoldable pub mapped : Case → Outcome
mapped c = mapper (bytes c.circuit) buffer

unfoldable pub outcome_of : Answer → Outcome
outcome_of (network t) = outcome (written (length (bytes t))) (over (bytes t) buffer)
outcome_of (refusal k line) = outcome (refused k line) buffer

unfoldable pub expected : Case → Outcome
expected c = outcome_of c.answer
