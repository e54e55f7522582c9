-- The bytes of an input one after the other, and what is printed on the way.
use Rattle.std.specs.Prelude.{◌≡◌, ℕ, ltb, take, Option, None, Some, Result, Ok, Err}
use Rattle.std.proofs.Math.Path.{refl, sym, ap}
use Rattle.std.proofs.Common.{◌∙◌}
use mathlib.Core.List.{List, [], ◌∷◌, ◌++◌, append_assoc, flatten}
use Rattle.laws.specs.Test.{if◌then◌otherwise◌}
use Rattle.rules.specs.Service.{end_line, refusal_text}
use Rattle.rules.specs.Refusal.{reason_number}
use Rattle.rules.specs.declared.Reason.{Reason}
use Rattle.framing.specs.Step.{Fed, fed}
use Rattle.framing.specs.declared.Feed.{Feed}

-- What the program has between two bytes.
pub record State : Type 0 where
  pub feed : Feed
  pub room : List ℕ

abbrev pub state_with : Feed → List ℕ → State
state_with f room = record { feed = f; room = room }

abbrev pub after : Fed → State
after r = state_with r.feed r.room

-- The state after these bytes.
unfoldable pub fed_all : State → List ℕ → State
fed_all a [] = a
fed_all a (b ∷ s) = fed_all (after (fed a.feed b a.room)) s

pub fed_all_step : (a : State) (b : ℕ) (s : List ℕ) (r : Fed) → fed a.feed b a.room ≡ r → fed_all a (b ∷ s) ≡ fed_all (after r) s
unfolding fed_all
fed_all_step a b s r e = rw e

-- The input's end.
unfoldable pub closing : Feed → List ℕ
closing f = if ltb 0 f.count then refusal_text 1 0 ++ end_line otherwise []

fed_all_append : (a : State) (s t : List ℕ) → fed_all a (s ++ t) ≡ fed_all (fed_all a s) t
unfolding fed_all
fed_all_append a [] t = refl
fed_all_append a (b ∷ s) t = fed_all_append (after (fed a.feed b a.room)) s t

-- The same where the bytes come in chunks.
unfoldable pub fed_chunks : State → List (List ℕ) → State
fed_chunks a [] = a
fed_chunks a (c ∷ cs) = fed_chunks (fed_all a c) cs

chunks_fed : (a : State) (cs : List (List ℕ)) → fed_chunks a cs ≡ fed_all a (flatten cs)
unfolding fed_all fed_chunks flatten
chunks_fed a [] = refl
chunks_fed a (c ∷ cs) = chunks_fed (fed_all a c) cs ∙ sym (fed_all_append a c (flatten cs))

-- `answer` is what the mapper answers to a job.
module _ (answer : List ℕ → List ℕ) where
  -- What is printed where a byte closes a job, if it does, and the kept bytes are these.
  abbrev pub said : Option (Result ℕ Reason) → List ℕ → List ℕ
  said None room = []
  said (Some (Ok n)) room = answer (take n room) ++ end_line
  said (Some (Err r)) room = refusal_text (reason_number r) 0 ++ end_line

  -- What is printed while these bytes come.
  unfoldable pub printed : State → List ℕ → List ℕ
  printed a [] = []
  printed a (b ∷ s) = let r = fed a.feed b a.room in said r.job r.room ++ printed (after r) s

  pub printed-step : (a : State) (b : ℕ) (s : List ℕ) (r : Fed) → fed a.feed b a.room ≡ r
      → printed a (b ∷ s) ≡ said r.job r.room ++ printed (after r) s
  unfolding printed
  printed-step a b s r e = rw e

  pub printed-append : (a : State) (s t : List ℕ) → printed a (s ++ t) ≡ printed a s ++ printed (fed_all a s) t
  unfolding printed fed_all
  printed-append a [] t = refl
  printed-append a (b ∷ s) t =
      let r = fed a.feed b a.room in
      ap (λ (o : List ℕ). said r.job r.room ++ o) (printed-append (after r) s t)
      ∙ sym (append_assoc (said r.job r.room) (printed (after r) s) (printed (fed_all (after r) s) t))

  unfoldable pub printed_chunks : State → List (List ℕ) → List ℕ
  printed_chunks a [] = []
  printed_chunks a (c ∷ cs) = printed a c ++ printed_chunks (fed_all a c) cs

  chunks_printed : (a : State) (cs : List (List ℕ)) → printed_chunks a cs ≡ printed a (flatten cs)
  unfolding printed printed_chunks flatten
  chunks_printed a [] = refl
  chunks_printed a (c ∷ cs) =
      ap (λ (o : List ℕ). printed a c ++ o) (chunks_printed (fed_all a c) cs) ∙ sym (printed-append a c (flatten cs))

  -- What is printed from these bytes and the input's end.
  unfoldable pub output : State → List ℕ → List ℕ
  output a s = printed a s ++ closing (fed_all a s).feed

  unfoldable pub output_chunks : State → List (List ℕ) → List ℕ
  output_chunks a cs = printed_chunks a cs ++ closing (fed_chunks a cs).feed

  -- It does not matter how the input is cut into reads.
  pub chunks_output : (a : State) (cs : List (List ℕ)) → output_chunks a cs ≡ output a (flatten cs)
  unfolding output output_chunks
  chunks_output a cs = rw (chunks_printed a cs, chunks_fed a cs)
