-- The definition read job by job: three equations that say all of it.
use Rattle.std.specs.Prelude.{◌≡◌, true, false, ℕ}
use Rattle.std.proofs.Math.Path.{refl}
use Rattle.std.proofs.Common.{◌∙◌, ⊎_elim}
use mathlib.Core.List.{List, [], ◌∷◌, ◌++◌, append_assoc, append-nil}
use Rattle.std.proofs.Math.Seq.{append_snoc}
use Rattle.laws.specs.Test.{decide, eq-or-ne}
use Rattle.rules.specs.CircuitText.{same_name}
use Rattle.rules.specs.Form.{lines, before}
use Rattle.rules.specs.Service.{end_line, is_end, refusal_text, last_answer, reply, served, service_with}
use Rattle.framing.specs.Jobs.{jobs, rest, replies, service_is}
use Rattle.framing.specs.Lines.{Plain, plain_none, plain_more, lines_newline, end_is, jobs_stop, rest_stop}

-- A job: lines with their newlines, none of them `(end)`.
pub data Job : List ℕ → Type 0 where
  none : Job []
  line : (l : List ℕ) {s : List ℕ} → Plain l → is_end (l ++ (10 ∷ [])) ≡ false → Job s → Job (l ++ (10 ∷ s))

-- The input: jobs, each closed by an `(end)` line, and what comes after the last.
pub data Input : List ℕ → Type 0 where
  stops : {j : List ℕ} (l : List ℕ) → Job j → Plain l → Input (j ++ l)
  closes : {j t : List ℕ} → Job j → Input t → Input (j ++ (end_line ++ t))

-- ---- Every input is of that kind.

job_more : {j : List ℕ} (l : List ℕ) → Job j → Plain l → is_end (l ++ (10 ∷ [])) ≡ false → Job (j ++ (l ++ (10 ∷ [])))
job_more l none p o = line l p o none
job_more l (line k {s} q i r) p o = rw (append_assoc k (10 ∷ s) (l ++ (10 ∷ []))) (line k q i (job_more l r p o))

-- where j and l came before the bytes s
abbrev After : List ℕ → Type 0
After s = (j l : List ℕ) → Job j → Plain l → Input (j ++ (l ++ s))

byte : (b : ℕ) (s : List ℕ) → After s → After (b ∷ s)
byte b s after j l o p =
    ⊎_elim
    (λ (e : b ≡ 10).
    rw (e, ← append_snoc l 10 s)
    (⊎_elim (λ (y : is_end (l ++ (10 ∷ [])) ≡ true). rw (end_is (l ++ (10 ∷ [])) y) (closes o (after [] [] none plain_none)))
    (λ (n : is_end (l ++ (10 ∷ [])) ≡ false). rw (append_assoc j (l ++ (10 ∷ [])) s) at (after (j ++ (l ++ (10 ∷ []))) [] (job_more l o p n) plain_none))
    (decide (is_end (l ++ (10 ∷ []))))))
    (λ (n : b ≡ 10 → ⊥). rw (append_snoc l b s) at (after j (l ++ (b ∷ [])) o (plain_more l b p n)))
    (eq-or-ne b 10)

after-bytes : (s : List ℕ) → After s
after-bytes [] j l o p = rw (append-nil l) (stops l o p)
after-bytes (b ∷ s) j l o p = byte b s (after-bytes s) j l o p

pub every_input : (s : List ℕ) → Input s
every_input s = after-bytes s [] [] none plain_none

-- ---- What the definition makes of it.

pub job-jobs : {j : List ℕ} (k t : List ℕ) → Job j → jobs k (lines (j ++ t)) ≡ jobs (k ++ j) (lines t)
unfolding jobs
job-jobs k t none = rw (append-nil k)
job-jobs k t (line l {s} p o r) =
    rw (append_assoc l (10 ∷ s) t, lines_newline l (s ++ t) p, o) (job-jobs (k ++ (l ++ (10 ∷ []))) t r ∙ rw (append_assoc k (l ++ (10 ∷ [])) s, append_assoc l (10 ∷ []) s))

pub job-rest : {j : List ℕ} (k t : List ℕ) → Job j → rest k (lines (j ++ t)) ≡ rest (k ++ j) (lines t)
unfolding rest
job-rest k t none = rw (append-nil k)
job-rest k t (line l {s} p o r) =
    rw (append_assoc l (10 ∷ s) t, lines_newline l (s ++ t) p, o) (job-rest (k ++ (l ++ (10 ∷ []))) t r ∙ rw (append_assoc k (l ++ (10 ∷ [])) s, append_assoc l (10 ∷ []) s))

pub end_jobs : (j t : List ℕ) → jobs j (lines (end_line ++ t)) ≡ j ∷ jobs [] (lines t)
unfolding jobs is_end end_line lines before same_name
end_jobs j t = refl

pub end_rest : (j t : List ℕ) → rest j (lines (end_line ++ t)) ≡ rest [] (lines t)
unfolding rest is_end end_line lines before same_name
end_rest j t = refl

-- Bytes after the last `(end)` line get the last answer.
some_last : (t : List ℕ) → (t ≡ [] → ⊥) → last_answer t ≡ refusal_text 1 0 ++ end_line
unfolding last_answer
some_last [] n = absurd (n refl)
some_last (b ∷ t) n = refl

module _ (answer : List ℕ → List ℕ) where
  -- Empty input prints nothing.
  pub service_none : service_with answer [] ≡ []
  unfolding service_with served last_answer lines
  service_none = refl

  -- A job and its `(end)` line get an answer; then comes the rest of the input.
  pub service-job : {j : List ℕ} (t : List ℕ) → Job j → service_with answer (j ++ (end_line ++ t)) ≡ reply answer j ++ service_with answer t
  unfolding replies
  service-job {j} t o =
      rw (service_is answer (j ++ (end_line ++ t)), service_is answer t, job-jobs [] (end_line ++ t) o, job-rest [] (end_line ++ t) o, end_jobs j t, end_rest j t)
      (append_assoc (reply answer j) (replies answer (jobs [] (lines t))) (last_answer (rest [] (lines t))))

  -- Input that stops after bytes but before an `(end)`.
  pub service_cut : {j : List ℕ} (l : List ℕ) → Job j → Plain l → (j ++ l ≡ [] → ⊥) → service_with answer (j ++ l) ≡ refusal_text 1 0 ++ end_line
  unfolding replies
  service_cut {j} l o p n = rw (service_is answer (j ++ l), job-jobs [] l o, job-rest [] l o, jobs_stop j l p, rest_stop j l p) (some_last (j ++ l) n)
