-- The definition taken apart: the jobs that are closed, their answers, and what comes after the last `(end)` line.
use Rattle.std.specs.Prelude.{◌≡◌, Bool, ℕ}
use Rattle.std.proofs.Math.Path.{refl}
use Rattle.std.proofs.Common.{sym}
use Rattle.std.proofs.Math.Bool.{true, false}
use mathlib.Core.List.{List, [], ◌∷◌, ◌++◌, append_assoc}
use Rattle.laws.specs.Test.{if◌then◌otherwise◌}
use Rattle.rules.specs.Form.{lines}
use Rattle.rules.specs.Service.{is_end, last_answer, reply, served, service_with}

-- The jobs that these lines close; `job` is what came before them of the first one.
unfoldable pub jobs : List ℕ → List (List ℕ) → List (List ℕ)
jobs job [] = []
jobs job (l ∷ ls) = if is_end l then job ∷ jobs [] ls otherwise jobs (job ++ l) ls

unfoldable pub rest : List ℕ → List (List ℕ) → List ℕ
rest job [] = job
rest job (l ∷ ls) = if is_end l then rest [] ls otherwise rest (job ++ l) ls

module _ (answer : List ℕ → List ℕ) where
  unfoldable pub replies : List (List ℕ) → List ℕ
  replies [] = []
  replies (job ∷ js) = reply answer job ++ replies js

  served_is : (job : List ℕ) (ls : List (List ℕ)) → served answer job ls ≡ replies (jobs job ls) ++ last_answer (rest job ls)
  unfolding served replies jobs rest
  served_is job [] = refl
  served_is job (l ∷ ls) = by (is_end l) (served_is [] ls) (served_is (job ++ l) ls)
    where
      by : (t : Bool) → served answer [] ls ≡ replies (jobs [] ls) ++ last_answer (rest [] ls)
          → served answer (job ++ l) ls ≡ replies (jobs (job ++ l) ls) ++ last_answer (rest (job ++ l) ls)
          → (if t then reply answer job ++ served answer [] ls otherwise served answer (job ++ l) ls)
          ≡ replies (if t then job ∷ jobs [] ls otherwise jobs (job ++ l) ls) ++ last_answer (if t then rest [] ls otherwise rest (job ++ l) ls)
      by true e f = rw e (sym (append_assoc (reply answer job) (replies (jobs [] ls)) (last_answer (rest [] ls))))
      by false e f = f

  pub service_is : (s : List ℕ) → service_with answer s ≡ replies (jobs [] (lines s)) ++ last_answer (rest [] (lines s))
  unfolding service_with
  service_is s = served_is [] (lines s)
