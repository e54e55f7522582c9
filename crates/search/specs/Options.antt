-- What the code may find, as the rules say it.
use Rattle.std.specs.Prelude as P
use Rattle.std.specs.Prelude.{Some, None}
use Rattle.std.proofs.Math.Option.{Option, none, some}

abbrev pub option_by : {A B : Type 0} → (A → B) → P.Option A → Option B
option_by f None = none
option_by f (Some x) = some (f x)
