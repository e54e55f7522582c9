-- The bytes of a read, fed one after the other.
use Rattle.std.specs.Prelude.{◌≡◌, List, ℕ, ◌+◌, ◌<◌, ◌≤◌, length, get_or, drop, Option, Result}
use Rattle.std.proofs.Common.{sym, ap, ◌∙◌, add-one, drop_of_length-le, drop-cons}
use Rattle.rules.specs.declared.Reason.{Reason}
use Rattle.framing.specs.Feeding.{State, state_with, fed_all, fed_all_step}
use Rattle.framing.specs.Step.{fed_to, fed}
use Rattle.framing.specs.declared.Feed.{Feed}

module _ (start a : State) (s : List ℕ) (i : ℕ) (so : fed_all a (drop i s) ≡ start) where
  pub fed_next : (f : Feed) (job : Option (Result ℕ Reason)) (room : List ℕ) → i < length s
      → fed_to f job room ≡ fed a.feed (get_or s i 0) a.room → fed_all (state_with f room) (drop (i + 1) s) ≡ start
  fed_next f job room h e =
      sym (fed_all_step a (get_or s i 0) (drop (i + 1) s) _ (sym e))
      ∙ ap (fed_all a) (rw (add-one i) (sym (drop-cons s i 0 h)))
      ∙ so

  pub fed_done : length s ≤ i → a ≡ start
  unfolding fed_all
  fed_done h = ap (fed_all a) (sym (drop_of_length-le s h)) ∙ so
