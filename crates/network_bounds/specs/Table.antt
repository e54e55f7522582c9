-- The table on a `boot` line.
use Rattle.std.specs.Prelude.{◌≡◌, List, ℕ, length, take}
use Rattle.rules.specs.Form.{bits_from}

pub record TableIs (b table : List ℕ) : Type 0 where
  pub long : length table ≡ 32
  pub bits : take (length b) table ≡ bits_from b
