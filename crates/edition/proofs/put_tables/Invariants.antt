use Rattle.many_text.specs.View.{tables_left}
use Rattle.edition.specs.Put.{Puts}
use Rattle.edition.proofs.put_tables.Given as goal

abbrev pub invariant-loop-table : goal.invariant-loop-table
invariant-loop-table l = Puts l.fn.network l.source (tables_left l.fn.tables) l.p (tables_left l.table-iterator) l.network
