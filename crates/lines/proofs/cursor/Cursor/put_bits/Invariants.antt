use Rattle.std.proofs.Common.{drop}
use Rattle.rules.specs.Writing.{bits_text}
use Rattle.lines.specs.Put.{Left}
use Rattle.lines.proofs.cursor.Cursor.put_bits.Given as goal

abbrev pub invariant-loop-bit : goal.invariant-loop-bit
invariant-loop-bit l = Left (bits_text l.table) l.initial.self (bits_text (drop l.bit-index l.table)) l.self
