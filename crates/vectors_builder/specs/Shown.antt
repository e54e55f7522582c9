-- What a number of the list is as a byte, and how a byte is shown.
use Rattle.std.specs.Prelude.{ℕ, ◌+◌, ltb}
use Rattle.laws.specs.Test.{if◌then◌otherwise◌}
use Rattle.vectors.specs.declared.Token.{Token}

-- A byte, 255 where a number is too large.
abbrev pub byte_of : Token → ℕ
byte_of t = if ltb t.value 256 then t.value otherwise 255

-- A byte 0 or 1 as a digit.
abbrev pub shown_byte : ℕ → ℕ
shown_byte b = if ltb b 2 then b + 48 otherwise b
