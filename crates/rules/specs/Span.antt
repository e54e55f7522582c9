-- The least and the greatest of some values, and their span (document 01, "Rules").
use Rattle.std.specs.Prelude.{List, [], ◌∷◌, ℕ, ◌+◌, ℤ, pos, nat_abs, ◌-ℤ◌}
use Rattle.std.specs.Int.Signed.{lt_z}
use Rattle.laws.specs.Test.{if◌then◌otherwise◌}

unfoldable pub least_from : ℤ → List ℤ → ℤ
least_from m [] = m
least_from m (v ∷ vs) = least_from (if lt_z v m then v otherwise m) vs

unfoldable pub greatest_from : ℤ → List ℤ → ℤ
greatest_from m [] = m
greatest_from m (v ∷ vs) = greatest_from (if lt_z m v then v otherwise m) vs

-- No values have no least one; 0 stands there and is never looked at.
unfoldable pub least : List ℤ → ℤ
least [] = pos 0
least (v ∷ vs) = least_from v vs

unfoldable pub greatest : List ℤ → ℤ
greatest [] = pos 0
greatest (v ∷ vs) = greatest_from v vs

-- The largest less the smallest value, plus 1; 0 where there is no value.
unfoldable pub span : List ℤ → ℕ
span [] = 0
span (v ∷ vs) = nat_abs (greatest (v ∷ vs) -ℤ least (v ∷ vs)) + 1
