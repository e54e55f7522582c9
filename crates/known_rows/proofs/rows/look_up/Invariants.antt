use Rattle.std.proofs.Common.{map}
use Rattle.laws.specs.Front.{Filling}
use Rattle.known_rows.specs.Entries.{entry_at}
use Rattle.known_rows.proofs.rows.look_up.Given as goal

-- The rows passed have their entries.
abbrev pub invariant-loop-i : goal.invariant-loop-i
invariant-loop-i l = Filling (map (entry_at l.low l.entries) l.values) l.initial.truths l.truths l.i
