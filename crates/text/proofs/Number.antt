-- The value of some digits, digit by digit.
use Rattle.std.specs.Prelude.{◌≡◌, List, ℕ, ◌+◌, ◌*◌, ◌-◌, ◌<◌, length, get_or, take}
use Rattle.std.proofs.lemmas.List.{take_more}
use Rattle.rules.specs.Form.{value_from}
use Rattle.theorems.specs.Decimals.{value_snoc}

pub value_more : (s : List ℕ) (i : ℕ) → i < length s → value_from 0 (take (i + 1) s) ≡ 10 * value_from 0 (take i s) + (get_or s i 0 - 48)
value_more s i h = rw (take_more s i 0 h, value_snoc)
