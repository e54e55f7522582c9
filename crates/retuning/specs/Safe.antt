-- What is promised of the answer whatever the state buffer holds (document 02, S-14).
use Rattle.std.specs.Prelude.{◌≡◌, List, ℕ, ◌<◌, ◌≤◌, length, take, drop}
use Rattle.rules.specs.declared.Stats.{Stats}
use Rattle.rules.specs.Admission.{admitted, admission}
use Rattle.rules.specs.Outcome.{Answer}

-- A refusal keeps the answer buffer. What is written is admitted, and bytes behind it are kept.
pub record Safe (reply : Answer) (old new : List ℕ) : Type 0 where
  pub keeps : 0 < reply.number → new ≡ old
  pub fits : reply.count ≤ length old
  pub admits : reply.number ≡ 0 → (s : Stats) × (admission (take reply.count new) ≡ admitted s)
  pub behind : drop reply.count new ≡ drop reply.count old
