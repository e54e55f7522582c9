use Rattle.network_bounds.proofs.Tables.{Filled}
use Rattle.network_bounds.proofs.table.table_of.Given as goal

abbrev pub invariant-loop-i : goal.invariant-loop-i
invariant-loop-i l = Filled l.text.bits.now l.table l.i
