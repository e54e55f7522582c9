-- A number's two bytes, gotten back from it.
use Rattle.std.specs.Prelude.{◌≡◌, ℕ, ◌+◌, ◌*◌, ◌/◌, ◌%◌, ◌<◌}
use Rattle.std.proofs.Common.{arith}

module _ (low high : ℕ) (h : low < 256) where
  pub low_back : (low + 256 * high) % 256 ≡ low
  low_back = omega arith

  pub high_back : (low + 256 * high) / 256 ≡ high
  high_back = omega arith
