-- The tables of a `many` line, read one by one from the front of some bytes: as many good ones as there are.
use Rattle.std.specs.Prelude.{List, [], ℕ}
use Rattle.std.proofs.Math.Option.{Option, none, some}
use Rattle.rules.specs.Edition2.{Table, centre_digit}
use Rattle.rules.specs.Form.{Piece, Reader, give, many, ◌>>=◌, ◌>>◌, word}
use Rattle.network_text.specs.Table.{short_bits}

-- A blank and a table of at most 32 bits.
unfoldable pub good_table : Reader Table
good_table = do
  word " "
  word "("
  b ← short_bits
  word " "
  c ← centre_digit
  word ")"
  give (record { bits = b; centre = c })

-- As many as there are at the front, and the bytes behind them.
unfoldable pub value_of : Option (Piece (List Table)) → List Table
value_of none = []
value_of (some p) = p.value

unfoldable pub rest_of : Option (Piece (List Table)) → List ℕ
rest_of none = []
rest_of (some p) = p.rest

unfoldable pub tables_in : List ℕ → List Table
tables_in s = value_of (many good_table s)

unfoldable pub rest_in : List ℕ → List ℕ
rest_in s = rest_of (many good_table s)
