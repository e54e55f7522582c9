-- Made by tests/computed/make from the Rust's answers.
use Rattle.std.specs.Prelude.{◌≡◌, refl, List, [], ◌∷◌, map}
use Rattle.rules.specs.Computed.Case.{Case, ◌⇒◌, network, mapped, expected}
use Rattle.rules.specs.Computed.Computing.{computing}

pub cases : List Case
cases =
    -- a gap in the values filled with 0
    ("(fbs 6 12 10 none naive one)\n(in a)\n(in b)\n(gate g 0100 (n 0) (n 1))\n(gate h 0001 (n 2) (n 1))\n(out y (n 3))\n" ⇒ network "(net 6 12 none)\n(in a)\n(in b)\n(lin 0 (4 0) (3 1))\n(boot 2 00010000)\n(out y (n 3))\n") ∷
    -- a gap filled with 1
    ("(fbs 5 9 10 none naive one)\n(in a)\n(in b)\n(gate g 1101 (n 0) (n 1))\n(gate h 0111 (n 1) (n 2))\n(out y (n 3))\n" ⇒ network "(net 5 9 none)\n(in a)\n(in b)\n(lin 0 (4 0) (3 1))\n(boot 2 11110111)\n(out y (n 3))\n") ∷
    -- a gap filled opposite to its partner
    ("(fbs 5 9 10 none naive one)\n(in a)\n(in b)\n(gate g 1101 (n 0) (n 1))\n(gate h 0010 (n 2) (n 0))\n(out y (n 3))\n" ⇒ network "(net 5 9 none)\n(in a)\n(in b)\n(lin 0 (5 0) (2 1))\n(boot 2 10100010)\n(out y (n 3))\n") ∷
    []

pub computed : map mapped cases ≡ map expected cases
unfolding cases computing
computed = refl
