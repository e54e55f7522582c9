-- The answer: the text, or 11 where the buffer is too short.
use Rattle.std.specs.Prelude as P
use Rattle.std.specs.Prelude.{◌≡◌, List, [], ◌++◌, ℕ, ◌≤◌, ◌<◌, take, drop}
use Rattle.std.proofs.Math.Path.{refl}
use Rattle.std.proofs.Common.{arith}
use borrow.Author.Tests.{lt-ltb, le-ltb}
use Rattle.std.proofs.Math.ListN.{length}
use Rattle.rules.specs.Converter.{answer_text}
use Rattle.rules.specs.Form.{Good}
use Rattle.rules.specs.Mapper.{map_reply}
use Rattle.rules.specs.Outcome.{outcome}
use Rattle.rules.specs.declared.Reason.TheVariants.{ShortBuffer}
use Rattle.rules.specs.declared.Refusal.{Refusal}
use Rattle.lines.specs.Front.{Written, untouched, untouched-length, text_over}

module _ (t : List ℕ) (n : ℕ) (none : List ℕ) (p : Written t [] n none) (before : List ℕ) where
  pub answer_short : length (none ++ before) < n → (f : Refusal) → f ≡ record { reason = ShortBuffer; line = 0 } → outcome (map_reply (P.Err f)) (none ++ before) ≡ answer_text before (Good t)
  unfolding answer_text
  answer_short h f q = rw (q, untouched t n none p before, lt-ltb (length before) (length t) (omega (arith, untouched-length t n none p before, p.size))) refl

  pub answer-written : (h : n ≤ length (none ++ before)) (next : ℕ) (after : List ℕ) → Written t (take n (none ++ before)) next after
      → outcome (map_reply (P.Ok n)) (after ++ drop n (none ++ before)) ≡ answer_text before (Good t)
  unfolding answer_text
  answer-written h next after q =
      let e : n ≡ length t = omega (arith, p.size) in
      rw (le-ltb (length before) (length t) (omega (arith, h, untouched-length t n none p before, p.size)), text_over t n none p before h next after q, e) refl
