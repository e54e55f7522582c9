-- The code's tables, seen as the definition's.
use Rattle.std.specs.Prelude.{List}
use Rattle.rules.specs.Edition2 as C
use Rattle.network_text.specs.Table.{bits_of}
use Rattle.many_text.specs.Tables.{tables_in}
use Rattle.many_text.specs.declared.table.Table.{Table}
use Rattle.many_text.specs.declared.tables.Tables.{Tables}

abbrev pub table_of : Table → C.Table
table_of t = record { bits = bits_of t.text; centre = t.centre }

-- Those that are still to be read.
abbrev pub tables_left : Tables → List C.Table
tables_left t = tables_in t.rest.now
