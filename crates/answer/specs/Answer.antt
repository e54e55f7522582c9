-- The mapper's reply and what it left in the front of the buffer, as the answer's text.
use Rattle.std.specs.Prelude.{◌≡◌, List, ◌++◌, ℕ, ◌≤◌, length, take, Result, Ok, Err}
use Rattle.std.proofs.Math.Path.{sym, ap}
use Rattle.std.proofs.Common.{◌∙◌, length-append, ne_eqb}
use native.Mathlib.Omega.{arith}
use Rattle.std.proofs.Math.Seq.{take-append-le}
use Rattle.mapped.proofs.Proved.{service-answer, later_kept}
use Rattle.rules.specs.declared.Refusal.{Refusal}
use Rattle.rules.specs.Mapper.{map_reply, mapper}
use Rattle.rules.specs.Outcome.{Outcome, outcome, written}
use Rattle.rules.specs.Refusal.{reason_number, reason_positive}
use Rattle.rules.specs.Service.{answer_text, end_line, mapper_answer, refusal_text}
use Rattle.answer.specs.Front.{Front, front_text}

module _ (job buffer part : List ℕ) (r : Result ℕ Refusal) (size : length buffer ≡ 65536) (e : outcome (map_reply r) part ≡ mapper job buffer) where
  answered : answer_text (outcome (map_reply r) part) ≡ mapper_answer job
  answered = ap answer_text e ∙ service-answer job buffer size

  module _ {n : ℕ} (w : r ≡ Ok n) (kept : length part ≡ 65536) (rest : List ℕ) where
    written_within : n ≤ 65536
    written_within =
        let a : (mapper job buffer).answer ≡ written n = sym (ap (λ (o : Outcome). o.answer) e) ∙ ap map_reply w in
        let l = (later_kept job buffer n a).0 in
        omega arith

    written_is : take n (part ++ rest) ≡ mapper_answer job
    unfolding answer_text
    written_is = take-append-le n part rest (omega (arith, written_within)) ∙ (rw w at answered)

    -- what comes after the network is put behind it
    pub written_ends : 6 ≤ length rest → (n ≤ 65536) × (65542 ≤ length (part ++ rest))
    written_ends h = (written_within, omega (arith, length-append part rest))

    pub front-written : {m : ℕ} {last : List ℕ} → Front (take n (part ++ rest) ++ end_line) m last → Front (mapper_answer job ++ end_line) m last
    front-written = front_text written_is

  refused_is : {q : Refusal} → r ≡ Err q → refusal_text (reason_number q.reason) q.line ≡ mapper_answer job
  unfolding answer_text
  refused_is {q} w =
      let f = rw w at answered in
      rw (ne_eqb (reason_number q.reason) 0 (λ z. let n = reason_positive q.reason in omega arith)) at f

  pub front_refused : {q : Refusal} {m : ℕ} {last : List ℕ} → r ≡ Err q
      → Front (refusal_text (reason_number q.reason) q.line ++ end_line) m last → Front (mapper_answer job ++ end_line) m last
  front_refused w = front_text (refused_is w)
