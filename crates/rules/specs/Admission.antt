-- Admission: a network's text in either edition judged, and its statistics (document 01, "Refused with"; document 02, S-11).
use Rattle.std.specs.Prelude.{List, ℕ, Result, Ok, Err}
use Rattle.std.proofs.Math.Option.{Option, none, some}
use Rattle.rules.specs.declared.Refusal.{Refusal}
use Rattle.rules.specs.declared.Stats.{Stats}
use Rattle.rules.specs.Edition2.{read_either}
use Rattle.rules.specs.Form.{Reading, Good, Refused}
use Rattle.rules.specs.Network.{Network, stats}
use Rattle.rules.specs.Refusal.{reason_number}

-- What admission answers. Accepted: number 0 and the statistics. Refused: a number and a line.
pub record Admission : Type 0 where
  pub number : ℕ
  pub line : ℕ
  pub stats : Option Stats

abbrev pub admitted : Stats → Admission
admitted s = record { number = 0; line = 0; stats = some s }

abbrev pub rejected : ℕ → ℕ → Admission
rejected k i = record { number = k; line = i; stats = none }

unfoldable pub admission_of : Reading Network → Admission
admission_of (Good w) = admitted (stats w)
admission_of (Refused k i) = rejected k i

unfoldable pub admission : List ℕ → Admission
admission text = admission_of (read_either text)

-- Document 01's number and values for each reply.
abbrev pub admit_reply : Result Stats Refusal → Admission
admit_reply (Ok s) = admitted s
admit_reply (Err r) = rejected (reason_number r.reason) r.line
