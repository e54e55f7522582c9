-- What is proved of the framing. The program hands each byte to `feed_byte`, prints what `said` makes of the event, and `closing` at the input's end (Feeding).
-- Its array has 32,768 bytes, whatever they are at first; `answer` is what the mapper answers to a job.
use Rattle.std.specs.Prelude.{◌≡◌, ℕ, min, length}
use Rattle.std.proofs.Common.{sym, ◌∙◌, arith, lt-ltb}
use Rattle.std.proofs.Math.Path.{ap}
use mathlib.Core.List.{List, [], ◌∷◌, ◌++◌, append-nil, append-eq-nil_iff, flatten}
use Rattle.rules.specs.CircuitText.{same_name}
use Rattle.rules.specs.Form.{lines, before}
use Rattle.rules.specs.Service.{end_line, is_end, last_answer, reply, service_with, mapper_answer, service}
use Rattle.framing.specs.Jobs.{jobs, rest, replies, service_is}
use Rattle.framing.specs.Step.{end_word, start}
use Rattle.framing.specs.Feeding.{State, state_with, fed_all, closing, printed, printed-append, output, output_chunks, chunks_output}
use Rattle.framing.specs.Lines.{plain_none}
use Rattle.framing.specs.Meaning.{Job, job-jobs}
use Rattle.framing.specs.Text.{feed_of}
use Rattle.framing.specs.Whole.{Holds, state_fresh, followed}
use Rattle.framing.specs.declared.Feed.{Feed}

-- Nothing has come since the last job; the array holds what earlier jobs left in it.
abbrev pub fresh : List ℕ → State
fresh room = state_with start room

-- A state after no bytes is fresh.
module _ (a : State) (h : Holds a []) where
  begins : a ≡ fresh h.old
  begins =
      let e = (append-eq-nil_iff {p = h.job} {q = h.line}).0 h.text in
      h.state ∙ rw (e.0, e.1) (sym (state_fresh h.old h.size))

-- The last answer goes by the count of the bytes.
by_count : (f : Feed) (t : List ℕ) → f.count ≡ min 32769 (length t) → closing f ≡ last_answer t
unfolding closing last_answer
by_count f [] e = rw e
by_count f (b ∷ t) e = rw (lt-ltb 0 f.count (omega arith))

held_closing : (a : State) (t : List ℕ) → Holds a t → closing a.feed ≡ last_answer t
unfolding feed_of
held_closing a t h = by_count a.feed t (ap (λ c. c.feed.count) h.state ∙ ap (λ u. min 32769 (length u)) h.text)

module _ (room : List ℕ) (size : length room ≡ 32768) where
  -- Where these bytes lead.
  led : (s : List ℕ) → Holds (fed_all (fresh room) s) (rest [] (lines s))
  led s = rw (state_fresh room size) (followed (λ j. j) s room [] [] size plain_none).holds

  module _ (answer : List ℕ → List ℕ) where
    -- At every moment the jobs that are closed have their replies, in turn, and nothing else is printed.
    pub service_so_far : (s : List ℕ) → printed answer (fresh room) s ≡ replies answer (jobs [] (lines s))
    service_so_far s = rw (state_fresh room size) (followed answer s room [] [] size plain_none).prints

    output_is : (s : List ℕ) → output answer (fresh room) s ≡ service_with answer s
    unfolding output
    output_is s = rw (service_so_far s, held_closing _ _ (led s), service_is answer s)

    -- The output is the definition's, whatever the input is and however it is cut into reads.
    pub service-any_chunks : (cs : List (List ℕ)) → output_chunks answer (fresh room) cs ≡ service_with answer (flatten cs)
    service-any_chunks cs = chunks_output answer (fresh room) cs ∙ output_is (flatten cs)

  -- With the mapper in its place.
  pub service-whole : (cs : List (List ℕ)) → output_chunks mapper_answer (fresh room) cs ≡ service (flatten cs)
  unfolding service
  service-whole = service-any_chunks mapper_answer

-- ---- When an answer comes.

module _ (room : List ℕ) (size : length room ≡ 32768) (answer : List ℕ → List ℕ) where
  -- after an `(end)` line the answers depend on what comes then alone
  anew : (s t : List ℕ) → rest [] (lines s) ≡ [] → printed answer (fresh room) (s ++ t) ≡ printed answer (fresh room) s ++ printed answer (fresh room) t
  anew s t e =
      let h : Holds (fed_all (fresh room) s) [] = rw e at (led room size s) in
      printed-append answer (fresh room) s t
      ∙ ap (λ o. printed answer (fresh room) s ++ o)
      (ap (λ a. printed answer a t) (begins _ h) ∙ service_so_far h.old h.size answer t ∙ sym (service_so_far room size answer t))

  -- a job with its `(end)` line, and without that line's newline
  at_its_end : {j : List ℕ} → Job j → printed answer (fresh room) (j ++ end_line) ≡ reply answer j
  unfolding jobs is_end end_line lines before same_name replies
  at_its_end {j} o = service_so_far room size answer (j ++ end_line) ∙ ap (replies answer) (job-jobs [] end_line o) ∙ append-nil (reply answer j)

  before_its_end : {j : List ℕ} → Job j → printed answer (fresh room) (j ++ end_word) ≡ []
  unfolding jobs is_end end_line end_word lines before same_name replies
  before_its_end {j} o = service_so_far room size answer (j ++ end_word) ∙ ap (replies answer) (job-jobs [] end_word o)

  -- An input that ends with an `(end)` line, or is empty, and then a job: nothing is printed before the newline of its `(end)`, and with that byte comes its
  -- reply, which depends on the job alone.
  pub record Prompt (s job : List ℕ) : Type 0 where
    pub nothing : printed answer (fresh room) (s ++ (job ++ end_word)) ≡ printed answer (fresh room) s
    pub answered : printed answer (fresh room) (s ++ (job ++ end_line)) ≡ printed answer (fresh room) s ++ reply answer job

  pub service_prompt : (s : List ℕ) {job : List ℕ} → rest [] (lines s) ≡ [] → Job job → Prompt s job
  service_prompt s {job} e o =
      record {
        nothing = anew s (job ++ end_word) e ∙ ap (λ x. printed answer (fresh room) s ++ x) (before_its_end o) ∙ append-nil (printed answer (fresh room) s);
        answered = anew s (job ++ end_line) e ∙ ap (λ x. printed answer (fresh room) s ++ x) (at_its_end o);
      }
