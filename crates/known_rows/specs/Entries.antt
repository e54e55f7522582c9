-- The numbers of the entries that rows make, where they make any, and the one at a value.
use Rattle.std.specs.Prelude as P
use Rattle.std.specs.Prelude.{List, ℕ, ℤ, nat_abs, ◌-ℤ◌, get_or, take, Some, None}
use Rattle.std.proofs.Math.Option.{Option, none, some}
use Rattle.rules.specs.declared.Entry.{Entry}
use Rattle.rotation.specs.Entries.{number_of_entry, numbers}

-- The numbers of the first n of some entries, where there are any.
abbrev pub first_numbers : ℕ → P.Option (List Entry) → Option (List ℕ)
first_numbers n None = none
first_numbers n (Some known) = some (numbers (take n known))

-- The number of an entry that a truth made, where it made one.
abbrev pub number_made : P.Option Entry → Option ℕ
number_made None = none
number_made (Some x) = some (number_of_entry x)

-- The entry of a value, counted from a least one.
unfoldable pub entry_at : ℤ → List ℕ → ℤ → ℕ
entry_at low known v = get_or known (nat_abs (v -ℤ low)) 0
