-- How many nodes are of a kind.
use Rattle.std.specs.Prelude.{◌≡◌, Bool, true, false, List, [], ◌∷◌, ◌++◌, ◌+◌, ◌≤◌, length}
use Rattle.std.proofs.Common.{arith}
use Rattle.laws.specs.Test.{if◌then◌otherwise◌}
use Rattle.rules.specs.Network.{LutNode, count}

pub count_snoc : (f : LutNode → Bool) (ns : List LutNode) (x : LutNode) → count f (ns ++ (x ∷ [])) ≡ count f ns + (if f x then 1 otherwise 0)
unfolding count
count_snoc f [] x = omega arith
count_snoc f (n ∷ ns) x = omega (arith, count_snoc f ns x)

pub one_or_none : (b : Bool) → (if b then 1 otherwise 0) ≤ 1
one_or_none true = omega arith
one_or_none false = omega arith

pub count_most : (f : LutNode → Bool) (xs : List LutNode) → count f xs ≤ length xs
unfolding count
count_most f [] = omega arith
count_most f (x ∷ xs) = omega (arith, count_most f xs, one_or_none (f x))
