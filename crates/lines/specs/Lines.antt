-- The lines of a network by their parts.
use Rattle.std.specs.Prelude.{List, ◌++◌, ℕ, ℤ}
use Rattle.rules.specs.declared.Limit.{Limit}
use Rattle.rules.specs.declared.Wire.{Wire}
use Rattle.rules.specs.Circuit.{Name}
use Rattle.rules.specs.Form.{bytes}
use Rattle.rules.specs.Writing.{digits, signed_text, limit_text, wire_text, weight_text}

-- the first line, from the word that opens it
abbrev pub settings_text : List ℕ → ℕ → ℕ → Limit → List ℕ
settings_text word p m norm = word ++ digits p ++ bytes " " ++ digits m ++ bytes " " ++ limit_text norm ++ bytes ")\n"

unfoldable pub net_text : ℕ → ℕ → Limit → List ℕ
net_text p m norm = settings_text (bytes "(net ") p m norm

unfoldable pub in_text : Name → ℕ → List ℕ
in_text name weight = bytes "(in " ++ name ++ weight_text weight ++ bytes ")\n"

unfoldable pub term_text : ℤ → ℕ → List ℕ
term_text c n = bytes " (" ++ signed_text c ++ bytes " " ++ digits n ++ bytes ")"

unfoldable pub out_text : Name → Wire → List ℕ
out_text name wire = bytes "(out " ++ name ++ bytes " " ++ wire_text wire ++ bytes ")\n"
