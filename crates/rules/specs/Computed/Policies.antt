-- Made by tests/computed/make from the Rust's answers.
use Rattle.std.specs.Prelude.{◌≡◌, refl, List, [], ◌∷◌, map}
use Rattle.rules.specs.Computed.Case.{Case, ◌⇒◌, network, mapped, expected}
use Rattle.rules.specs.Computed.Computing.{computing}

pub cases : List Case
cases =
    -- span, one: document 01's service example
    ("(fbs 4 8 10 none span one)\n(in a)\n(in b)\n(gate g 0001 (n 0) (n 1))\n(out y (n 2))\n" ⇒ network "(net 4 8 none)\n(in a)\n(in b)\n(lin 0 (1 0) (1 1))\n(boot 2 001)\n(out y (n 3))\n") ∷
    -- span: XOR at M = 3 takes (1, -1), whose energy is less than that of (1, 1)
    ("(fbs 2 3 10 none span one)\n(in a)\n(in b)\n(gate g 0110 (n 0) (n 1))\n(out y (n 2))\n" ⇒ network "(net 2 3 none)\n(in a)\n(in b)\n(lin 1 (1 0) (-1 1))\n(boot 2 101)\n(out y (n 3))\n") ∷
    -- span, many: three inputs and two gates in one table; the least span, though another pair has less energy
    ("(fbs 6 10 10 none span many)\n(in a)\n(in b)\n(in c)\n(gate g 0111 (n 2) (n 0))\n(gate h 0001 (n 1) (n 3))\n(out y (n 4))\n" ⇒ network "(net 6 10 none)\n(in a)\n(in b)\n(in c)\n(lin 0 (1 0) (2 1) (1 2))\n(boot 3 00011)\n(out y (n 4))\n") ∷
    -- naive, one: the pair (right span, 1)
    ("(fbs 4 8 10 none naive one)\n(in a)\n(in b)\n(gate g 0001 (n 0) (n 1))\n(out y (n 2))\n" ⇒ network "(net 4 8 none)\n(in a)\n(in b)\n(lin 0 (2 0) (1 1))\n(boot 2 0001)\n(out y (n 3))\n") ∷
    -- naive, many: the pair on a cone and an input, and the other side first
    ("(fbs 8 16 10 none naive many)\n(in a)\n(in b)\n(in c)\n(gate g 0001 (n 0) (n 1))\n(gate h 0111 (n 2) (n 3))\n(out y (n 4))\n" ⇒ network "(net 8 16 none)\n(in a)\n(in b)\n(in c)\n(lin 0 (4 0) (2 1) (1 2))\n(boot 3 01010111)\n(out y (n 4))\n") ∷
    -- basic, one: P is 2 and M is 4; every gate is bootstrapped; the pair is chosen as under span
    ("(fbs 3 6 10 none basic one)\n(in a)\n(in b)\n(in c)\n(gate g 0110 (n 0) (n 1))\n(gate h 0110 (n 3) (n 2))\n(out y (n 4))\n" ⇒ network "(net 2 4 none)\n(in a)\n(in b)\n(in c)\n(lin 1 (1 0) (-1 1))\n(boot 3 101)\n(lin 1 (1 4) (-1 2))\n(boot 5 101)\n(out y (n 6))\n") ∷
    -- basic, many: the second gate takes the sum of the first
    ("(fbs 5 8 10 none basic many)\n(in a)\n(in b)\n(gate g 0111 (n 0) (n 1))\n(gate h 0001 (n 1) (n 0))\n(out y (n 2))\n(out z (n 3))\n" ⇒ network "(net 2 4 none)\n(in a)\n(in b)\n(lin 0 (1 0) (1 1))\n(boot 2 011)\n(boot 2 001)\n(out y (n 3))\n(out z (n 4))\n") ∷
    -- no gate and no output
    ("(fbs 2 2 1 none span one)\n(in a)\n" ⇒ network "(net 2 2 none)\n") ∷
    []

pub computed : map mapped cases ≡ map expected cases
unfolding cases computing
computed = refl
