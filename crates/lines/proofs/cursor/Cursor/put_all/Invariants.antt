use Rattle.std.proofs.Common.{drop}
use Rattle.lines.specs.Put.{Left}
use Rattle.lines.proofs.cursor.Cursor.put_all.Given as goal

abbrev pub invariant-loop-b : goal.invariant-loop-b
invariant-loop-b l = Left l.bytes l.initial.self (drop l.b-index l.bytes) l.self
