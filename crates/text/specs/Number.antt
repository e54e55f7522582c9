-- A number of any size is read up to a cap, which is enough to judge it.
use Rattle.std.specs.Prelude.{ℕ, min}

abbrev pub cap_number : ℕ → ℕ
cap_number n = min 65536 n
