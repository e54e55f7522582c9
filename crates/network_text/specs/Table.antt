-- A table's bits at the front of some bytes.
use Rattle.std.specs.Prelude.{List, ℕ, leb, length}
use Rattle.std.proofs.Math.Option.{none}
use Rattle.laws.specs.Test.{if◌then◌otherwise◌}
use Rattle.rules.specs.Form.{Reader, give, ◌>>=◌, bits, bits_from}
use Rattle.network_text.specs.declared.table.TableText.{TableText}

-- The bits that stand in the text.
abbrev pub bits_of : TableText → List ℕ
bits_of t = bits_from t.bits.now

-- At most 32 of them.
unfoldable pub short_bits : Reader (List ℕ)
short_bits = bits >>= (λ b s. if leb (length b) 32 then give b s otherwise none)
