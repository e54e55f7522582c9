-- The state as a function of the bytes since the last job, and what a byte more makes of it.
use Rattle.std.specs.Prelude.{◌≡◌, take, set, None, Some}
use Rattle.std.proofs.Math.Path.{refl}
use Rattle.std.proofs.Common.{◌∙◌}
use mathlib.Core.List.{List, [], ◌∷◌, ◌++◌, append_assoc, append-nil}
use Rattle.std.proofs.Math.Logic.{⊎_elim}
use Prim.Native.Nat.{ℕ, suc, ◌+◌, ◌<◌, ◌≤◌, min}
use native.Mathlib.Omega.{arith}
use borrow.Author.Tests.{le-leb, lt-leb}
use Rattle.std.proofs.Math.ListN.{length, drop, length-append, length-take}
use Rattle.std.proofs.Math.Seq.{take_all, take-take, take-append-le, take-append_seam, drop-cons, set_at, set_out}
use Rattle.laws.specs.Over.{over, over-length}
use Rattle.laws.specs.Test.{lt_or_le}
use Rattle.rules.specs.Service.{reply}
use Rattle.framing.specs.Step.{start, closed_by, fed_to, fed, fed_closes, fed_newline, fed_on}
use Rattle.framing.specs.Feeding.{State, said}
use Rattle.framing.specs.Lines.{match_from, match_more}
use Rattle.framing.specs.declared.Feed.{Feed}

-- `job` has come in whole lines, and `line` of the current one; `old` is what the array held before.
unfoldable pub feed_of : List ℕ → List ℕ → Feed
feed_of job line = record { count = min 32769 (length (job ++ line)); line = min 32769 (length job); matched = match_from (Some 0) line }

unfoldable pub room_of : List ℕ → List ℕ → List ℕ
room_of old t = over (take 32768 t) old

abbrev pub state_of : List ℕ → List ℕ → List ℕ → State
state_of old job line = record { feed = feed_of job line; room = room_of old (job ++ line) }

-- ---- The kept bytes.

module _ (old : List ℕ) (size : length old ≡ 32768) where
  pub room-length : (t : List ℕ) → length (room_of old t) ≡ 32768
  unfolding room_of
  room-length t = over-length (take 32768 t) old (simp length-take (omega arith)) ∙ size

  pub room_none : room_of old [] ≡ old
  unfolding room_of over
  room_none = refl

  -- a byte more is stored behind the others, or past the end nowhere
  room_more : (t : List ℕ) (b : ℕ) → set (room_of old t) (min 32769 (length t)) b ≡ room_of old (t ++ (b ∷ []))
  unfolding room_of over
  room_more t b =
      ⊎_elim
      (λ (h : length t < 32768).
      let n : min 32769 (length t) ≡ length t = omega arith in
      let k : length (t ++ (b ∷ [])) ≡ suc (length t) = simp length-append (omega arith) in
      rw (
        take_all 32768 t (omega arith),
        take_all 32768 (t ++ (b ∷ [])) (omega arith),
        n,
        drop-cons old (length t) 0 (omega arith),
        set_at t _ (drop (suc (length t)) old) b (length t) refl,
        k,
        append_assoc,
      ))
      (λ (h : 32768 ≤ length t).
      rw (take-append-le 32768 t (b ∷ []) h)
      (set_out (take 32768 t ++ drop (length (take 32768 t)) old) (min 32769 (length t)) b (omega (arith, room-length t))))
      (lt_or_le (length t) 32768)

  -- a job within the limit is there whole
  room-job : (job line : List ℕ) → length job ≤ 32768 → take (length job) (room_of old (job ++ line)) ≡ job
  unfolding room_of over
  room-job job line h =
      take-append-le (length job) (take 32768 (job ++ line)) _ (simp (length-take, length-append) (omega arith))
      ∙ take-take (length job) 32768 (job ++ line) (omega arith)
      ∙ take-append_seam job line

-- ---- A byte more.

one_more : (t : List ℕ) (b : ℕ) → min 32769 (min 32769 (length t) + 1) ≡ min 32769 (length (t ++ (b ∷ [])))
one_more t b = simp length-append (omega arith)

module _ (old : List ℕ) (size : length old ≡ 32768) (job line : List ℕ) where
  pub step_on : (b : ℕ) → (b ≡ 10 → ⊥)
      → fed (feed_of job line) b (room_of old (job ++ line)) ≡ fed_to (feed_of job (line ++ (b ∷ []))) None (room_of old (job ++ (line ++ (b ∷ []))))
  unfolding feed_of
  step_on b n =
      fed_on (feed_of job line) b (room_of old (job ++ line)) n
      ∙ rw (room_more old size (job ++ line) b, one_more (job ++ line) b, match_more (Some 0) line b, append_assoc)

  pub step_newline : (match_from (Some 0) line ≡ Some 5 → ⊥)
      → fed (feed_of job line) 10 (room_of old (job ++ line)) ≡ fed_to (feed_of (job ++ (line ++ (10 ∷ []))) []) None (room_of old ((job ++ (line ++ (10 ∷ []))) ++ []))
  unfolding feed_of match_from
  step_newline n =
      fed_newline (feed_of job line) 10 (room_of old (job ++ line)) refl n
      ∙ rw (append-nil (job ++ (line ++ (10 ∷ []))), room_more old size (job ++ line) 10, one_more (job ++ line) 10, append_assoc)

  pub step_closes : match_from (Some 0) line ≡ Some 5 → fed (feed_of job line) 10 (room_of old (job ++ line)) ≡ fed_to start (Some (closed_by (min 32769 (length job)))) (room_of old (job ++ line))
  unfolding feed_of
  step_closes e = fed_closes (feed_of job line) 10 (room_of old (job ++ line)) refl e

  -- the job that is closed gets its answer
  pub said-reply : (answer : List ℕ → List ℕ) → said answer (Some (closed_by (min 32769 (length job)))) (room_of old (job ++ line)) ≡ reply answer job
  unfolding reply
  said-reply answer =
      ⊎_elim
      (λ (h : 32768 < length job). rw (lt-leb (min 32769 (length job)) 32768 (omega arith), lt-leb (length job) 32768 h))
      (λ (h : length job ≤ 32768).
      let n : min 32769 (length job) ≡ length job = omega arith in
      rw (n, le-leb (length job) 32768 h, room-job old size job line h))
      (lt_or_le 32768 (length job))
