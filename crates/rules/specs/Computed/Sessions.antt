-- The service by its definition: whole inputs and what is printed, from document 01.
use Rattle.std.specs.Prelude.{◌≡◌, refl, List, [], ◌∷◌, map, replicate}
use Prim.Native.String.{String}
use Rattle.rules.specs.Computed.Computing.{computing}
use Rattle.rules.specs.Form.{bytes}
use Rattle.rules.specs.Service.{end_line, is_end, refusal_text, answer_text, mapper_answer, last_answer, reply, served, service_with, service}

pub record Session : Type 0 where
  pub input : String
  pub output : String

infix 2 ◌⇒◌
abbrev pub ◌⇒◌ : String → String → Session
i ⇒ o = record { input = i; output = o }

pub sessions : List Session
sessions =
    -- "Reckoned by hand": the service's answer for AND
    ("(fbs 4 8 10 none span one)\n(in a)\n(in b)\n(gate g 0001 (n 0) (n 1))\n(out y (n 2))\n(end)\n" ⇒ "(net 4 8 none)\n(in a)\n(in b)\n(lin 0 (1 0) (1 1))\n(boot 2 001)\n(out y (n 3))\n(end)\n") ∷
    -- nothing, an empty job, and `(end)` without its newline
    ("" ⇒ "") ∷
    ("(end)\n" ⇒ "(no 4 1)\n(end)\n") ∷
    ("(end)" ⇒ "(no 1 0)\n(end)\n") ∷
    -- lines that are nearly `(end)`, then a job that is cut short
    ("(end) \n(end)\n(end)\r\n(end)\n(fbs 2 2 1 none span one)\n(end)\n(fbs 2 2 1 none span one)\n" ⇒ "(no 1 1)\n(end)\n(no 1 1)\n(end)\n(net 2 2 none)\n(end)\n(no 1 0)\n(end)\n") ∷
    []

pub computed : map (λ s. service (bytes s.input)) sessions ≡ map (λ s. bytes s.output) sessions
unfolding sessions service service_with served reply last_answer mapper_answer answer_text refusal_text is_end end_line computing
computed = refl

-- A job at the limit and one over it, where the answer is empty.
pub limit : map (λ n. reply (λ job. []) (replicate n 7)) (32768 ∷ 32769 ∷ []) ≡ bytes "(end)\n" ∷ bytes "(no 3 0)\n(end)\n" ∷ []
unfolding reply refusal_text end_line computing
limit = refl
