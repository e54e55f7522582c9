-- Gates that differ at most in their lines.
use Rattle.std.specs.Prelude.{◌≡◌, List, ℕ, ◌<◌, length, get_or}
use Rattle.rules.specs.Circuit.{Gate}

pub record SameGates (a b : List Gate) : Type 0 where
  pub long : length a ≡ length b
  pub each : (i : ℕ) (d e : Gate) → i < length a → ((get_or a i d).bits ≡ (get_or b i e).bits) × ((get_or a i d).wires ≡ (get_or b i e).wires)
