-- The weight of an input.
use Rattle.std.specs.Prelude.{ℕ}
use Rattle.rules.specs.Form.{Reader, ◌>>=◌, ◌>>◌, word, number, from2_to64}

-- A blank and a number from 2 to 64.
unfoldable pub written_weight : Reader ℕ
written_weight = word " " >> (number >>= from2_to64)
