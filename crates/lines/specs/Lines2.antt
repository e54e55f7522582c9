-- The lines of edition 2 by their parts.
use Rattle.std.specs.Prelude.{List, ◌++◌, ℕ}
use Rattle.rules.specs.declared.Limit.{Limit}
use Rattle.rules.specs.Form.{bytes}
use Rattle.rules.specs.Writing.{digits, bits_text}
use Rattle.lines.specs.Lines.{settings_text}

unfoldable pub net2_text : ℕ → ℕ → Limit → List ℕ
net2_text p m norm = settings_text (bytes "(net2 ") p m norm

-- before its tables
unfoldable pub many_text : ℕ → List ℕ
many_text source = bytes "(many " ++ digits source

unfoldable pub table_text : List ℕ → ℕ → List ℕ
table_text table centre = bytes " (" ++ bits_text table ++ bytes " " ++ digits centre ++ bytes ")"
