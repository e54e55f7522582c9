-- Byte by byte: the state and what is printed follow the definition.
use Rattle.std.specs.Prelude.{◌≡◌, ℕ, Some, length}
use Rattle.std.proofs.Math.Path.{refl, sym, ap, ap₂}
use Rattle.std.proofs.Common.{◌∙◌, ⊎_elim}
use mathlib.Core.List.{List, [], ◌∷◌, ◌++◌, append_assoc, append-nil}
use Rattle.laws.specs.Test.{eq-or-ne}
use Rattle.rules.specs.Form.{lines}
use Rattle.framing.specs.Jobs.{jobs, rest, replies}
use Rattle.framing.specs.Step.{start}
use Rattle.framing.specs.Feeding.{State, state_with, fed_all, fed_all_step, printed, printed-step}
use Rattle.framing.specs.Lines.{Plain, plain_none, plain_more, match_from, whole_or, jobs_stop, rest_stop, jobs_closes, rest_closes, jobs_newline, rest_newline}
use Rattle.framing.specs.Text.{feed_of, room_of, state_of, room-length, room_none, step_on, step_newline, step_closes, said-reply}

-- The state is that after these bytes of a job.
pub record Holds (a : State) (t : List ℕ) : Type 0 where
  pub old : List ℕ
  pub job : List ℕ
  pub line : List ℕ
  pub size : length old ≡ 32768
  pub text : job ++ line ≡ t
  pub state : a ≡ state_of old job line

held : (a c : State) (t u : List ℕ) → a ≡ c → u ≡ t → Holds c t → Holds a u
held a c t u e f h = record { old = h.old; job = h.job; line = h.line; size = h.size; text = h.text ∙ sym f; state = e ∙ h.state }

-- Nothing has come since the last job; the array holds what earlier jobs left in it.
pub state_fresh : (room : List ℕ) → length room ≡ 32768 → state_with start room ≡ state_of room [] []
unfolding feed_of match_from
state_fresh room size = rw (room_none room size)

module _ (answer : List ℕ → List ℕ) where
  -- What is printed on the bytes s, and where they lead, is as the definition has it for these lines after `job`.
  pub record Follows (a : State) (s job : List ℕ) (ls : List (List ℕ)) : Type 0 where
    pub prints : printed answer a s ≡ replies answer (jobs job ls)
    pub holds : Holds (fed_all a s) (rest job ls)

  module _ (old job line : List ℕ) (size : length old ≡ 32768) (p : Plain line) where
    abbrev here : State
    here = state_of old job line

    abbrev room : List ℕ
    room = room_of old (job ++ line)

    stops : Follows here [] job (lines (line ++ []))
    unfolding printed fed_all replies
    stops =
        record {
          prints = rw (append-nil line, jobs_stop job line p);
          holds = record { old = old; job = job; line = line; size = size; text = sym (rw (append-nil line) (rest_stop job line p)); state = refl };
        }

    module _ (s : List ℕ) where
      goes_on : (b : ℕ) → (b ≡ 10 → ⊥) → Follows (state_of old job (line ++ (b ∷ []))) s job (lines ((line ++ (b ∷ [])) ++ s)) → Follows here (b ∷ s) job (lines (line ++ (b ∷ s)))
      goes_on b n f =
          let e = step_on old size job line b n in
          let l = append_assoc line (b ∷ []) s in
          record {
            prints = printed-step answer here b s _ e ∙ f.prints ∙ ap (λ x. replies answer (jobs job (lines x))) l;
            holds = held _ _ _ _ (fed_all_step here b s _ e) (sym (ap (λ x. rest job (lines x)) l)) f.holds;
          }

      newline : (match_from (Some 0) line ≡ Some 5 → ⊥) → Follows (state_of old (job ++ (line ++ (10 ∷ []))) []) s (job ++ (line ++ (10 ∷ []))) (lines s)
          → Follows here (10 ∷ s) job (lines (line ++ (10 ∷ s)))
      newline m f =
          let e = step_newline old size job line m in
          record {
            prints = printed-step answer here 10 s _ e ∙ f.prints ∙ sym (ap (replies answer) (jobs_newline job line p s m));
            holds = held _ _ _ _ (fed_all_step here 10 s _ e) (rest_newline job line p s m) f.holds;
          }

      closes : match_from (Some 0) line ≡ Some 5 → Follows (state_of room [] []) s [] (lines s) → Follows here (10 ∷ s) job (lines (line ++ (10 ∷ s)))
      unfolding replies
      closes m f =
          let e = step_closes old size job line m in
          let g = state_fresh room (room-length old size (job ++ line)) in
          record {
            prints =
                printed-step answer here 10 s _ e
                ∙ ap₂ {C = List ℕ} (λ x y. x ++ y) (said-reply old size job line answer) (ap (λ a. printed answer a s) g ∙ f.prints)
                ∙ sym (ap (replies answer) (jobs_closes job line p s m));
            holds = held _ _ _ _ (fed_all_step here 10 s _ e ∙ ap (λ a. fed_all a s) g) (rest_closes job line p s m) f.holds;
          }

  -- from any state that bytes s lead on from
  abbrev pub Every : List ℕ → Type 0
  Every s = (old job line : List ℕ) → length old ≡ 32768 → Plain line → Follows (state_of old job line) s job (lines (line ++ s))

  one : (b : ℕ) (s : List ℕ) → Every s → Every (b ∷ s)
  one b s every old job line size p =
      ⊎_elim
      (λ (e : b ≡ 10).
      rw e
      (⊎_elim (λ (m : match_from (Some 0) line ≡ Some 5). closes old job line size p s m (every (room_of old (job ++ line)) [] [] (room-length old size (job ++ line)) plain_none))
      (λ (m : match_from (Some 0) line ≡ Some 5 → ⊥). newline old job line size p s m (every old (job ++ (line ++ (10 ∷ []))) [] size plain_none))
      (whole_or (match_from (Some 0) line))))
      (λ (n : b ≡ 10 → ⊥). goes_on old job line size p s b n (every old job (line ++ (b ∷ [])) size (plain_more line b p n)))
      (eq-or-ne b 10)

  pub followed : (s : List ℕ) → Every s
  followed [] = stops
  followed (b ∷ s) = one b s (followed s)
