-- The bytes of one read, one after the other.
use Rattle.std.specs.Prelude.{◌≡◌, List, ℕ, suc, ◌+◌, ◌<◌, length, get_or, drop, take, Option, Result}
use Rattle.std.proofs.Common.{sym, ap, ◌∙◌, add-one, drop-cons}
use Rattle.rules.specs.declared.Reason.{Reason}
use Rattle.framing.specs.Step.{fed_to, fed}
use Rattle.framing.specs.Feeding.{State, state_with, fed_all, fed_all_step}
use Rattle.framing.specs.declared.Feed.{Feed}

-- The rest of the bytes after one more.
pub chunk_step : (s : List ℕ) (f g : Feed) (room left : List ℕ) (i : ℕ) (closed : Option (Result ℕ Reason)) → i < length s
    → fed_to g closed left ≡ fed f (get_or s i 0) room → fed_all (state_with g left) (drop (i + 1) s) ≡ fed_all (state_with f room) (drop i s)
chunk_step s f g room left i closed h t =
    rw (add-one i) (sym (fed_all_step (state_with f room) (get_or s i 0) (drop (suc i) s) _ (sym t)))
    ∙ ap (fed_all (state_with f room)) (sym (drop-cons s i 0 h))

-- Some bytes from the buffer's front, as many as were read, lead from one state to another.
pub record Led (read : List ℕ) (a b : State) : Type 0 where
  pub count : ℕ
  pub leads : b ≡ fed_all a (take count read)
