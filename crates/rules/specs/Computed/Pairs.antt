-- Made by tests/computed/make from the Rust's answers.
use Rattle.std.specs.Prelude.{◌≡◌, refl, List, [], ◌∷◌, map}
use Rattle.rules.specs.Computed.Case.{Case, ◌⇒◌, network, mapped, expected}
use Rattle.rules.specs.Computed.Computing.{computing}

pub cases : List Case
cases =
    -- a as large as the right span
    ("(fbs 6 12 10 none span many)\n(in a)\n(in b)\n(in c)\n(gate g 1001 (n 2) (n 1))\n(gate h 0111 (n 0) (n 3))\n(out y (n 4))\n" ⇒ network "(net 6 12 none)\n(in a)\n(in b)\n(in c)\n(lin 3 (-1 0) (-2 1) (2 2))\n(boot 3 101110)\n(out y (n 4))\n") ∷
    -- b as low as minus the left span
    ("(fbs 3 6 10 none span one)\n(in a)\n(in b)\n(in c)\n(gate g 0010 (n 2) (n 0))\n(gate h 0110 (n 1) (n 3))\n(out y (n 4))\n" ⇒ network "(net 3 6 none)\n(in a)\n(in b)\n(in c)\n(lin 4 (1 2) (-1 0) (-3 1))\n(boot 3 110001)\n(out y (n 4))\n") ∷
    -- b as large as the left span; the lower a comes before the lower b
    ("(fbs 4 8 10 none span many)\n(in a)\n(in b)\n(in c)\n(gate g 0100 (n 2) (n 0))\n(gate h 1001 (n 1) (n 2))\n(gate i 0111 (n 4) (n 3))\n(out y (n 5))\n" ⇒ network "(net 4 8 none)\n(in a)\n(in b)\n(in c)\n(lin 3 (-3 0) (1 1) (2 2))\n(boot 3 1101001)\n(out y (n 4))\n") ∷
    -- the less norm comes before the less energy
    ("(fbs 6 6 10 none span many)\n(in a)\n(in b)\n(in c)\n(gate g 1001 (n 2) (n 1))\n(gate h 1001 (n 0) (n 3))\n(gate i 0001 (n 4) (n 2))\n(out y (n 5))\n" ⇒ network "(net 6 6 none)\n(in a)\n(in b)\n(in c)\n(lin 4 (-2 0) (-2 1) (1 2))\n(boot 3 010001)\n(out y (n 4))\n") ∷
    -- energy has squares of values, not values, cubes or fourth powers
    ("(fbs 12 23 10 none span one)\n(in a)\n(in b)\n(in c)\n(in d)\n(gate g 0100 (n 1) (n 2))\n(gate h 1011 (n 4) (n 3))\n(gate i 0100 (n 0) (n 2))\n(gate j 0110 (n 6) (n 1))\n(gate k 1011 (n 7) (n 5))\n(out y (n 8))\n" ⇒ network "(net 12 23 none)\n(in a)\n(in b)\n(in c)\n(in d)\n(lin 17 (1 0) (4 2) (-7 1) (-10 3))\n(boot 4 11101111101100010000010)\n(out y (n 5))\n") ∷
    -- energy counts a row for each assignment of a source whose coefficient is 0: a sum of four is taken for a function of three
    ("(fbs 9 13 10 none span one)\n(in a)\n(in b)\n(in c)\n(in d)\n(gate g 0001 (n 2) (n 3))\n(gate h 1110 (n 0) (n 4))\n(gate i 1000 (n 1) (n 5))\n(gate j 0111 (n 6) (n 1))\n(gate k 1110 (n 7) (n 4))\n(gate l 0111 (n 8) (n 6))\n(out y (n 9))\n" ⇒ network "(net 9 13 none)\n(in a)\n(in b)\n(in c)\n(in d)\n(lin 1 (2 2) (2 3) (-1 0) (5 1))\n(boot 4 11111111100)\n(out y (n 5))\n") ∷
    -- a ends at the right span, though a larger one would come first
    ("(fbs 3 6 10 none span one)\n(in a)\n(in b)\n(in c)\n(gate g 0111 (n 0) (n 2))\n(gate h 1011 (n 1) (n 2))\n(gate i 0110 (n 3) (n 4))\n(out y (n 5))\n" ⇒ network "(net 3 6 none)\n(in a)\n(in b)\n(in c)\n(lin 0 (1 0) (1 2))\n(boot 3 011)\n(lin 1 (3 4) (-1 1) (1 2))\n(boot 5 110001)\n(out y (n 6))\n") ∷
    -- a over 5
    ("(fbs 16 32 10 none span one)\n(in a)\n(in b)\n(in c)\n(gate g 0010 (n 2) (n 1))\n(gate h 0110 (n 2) (n 0))\n(gate i 0100 (n 3) (n 4))\n(gate j 0111 (n 2) (n 1))\n(gate k 1001 (n 5) (n 6))\n(gate l 0001 (n 2) (n 1))\n(gate m 0111 (n 0) (n 8))\n(gate n 0010 (n 1) (n 0))\n(gate o 0001 (n 9) (n 10))\n(gate p 1001 (n 7) (n 11))\n(out y (n 12))\n" ⇒ network "(net 16 32 none)\n(in a)\n(in b)\n(in c)\n(lin 9 (1 2) (-2 1) (-7 0))\n(boot 3 01110001101)\n(out y (n 4))\n") ∷
    -- of pairs of one span and norm the less energy comes before the lower a
    ("(fbs 2 3 10 none span one)\n(in a)\n(in b)\n(gate g 1001 (n 1) (n 0))\n(gate h 1110 (n 0) (n 2))\n(gate i 0100 (n 2) (n 3))\n(out y (n 4))\n" ⇒ network "(net 2 3 none)\n(in a)\n(in b)\n(lin 1 (1 1) (-1 0))\n(boot 2 101)\n(out y (n 3))\n") ∷
    -- the least span, though another pair has less norm
    ("(fbs 4 6 10 none span one)\n(in a)\n(in b)\n(in c)\n(gate g 0100 (n 2) (n 1))\n(gate h 0010 (n 3) (n 0))\n(gate i 0110 (n 4) (n 2))\n(gate j 1011 (n 5) (n 0))\n(gate k 0111 (n 6) (n 4))\n(out y (n 7))\n" ⇒ network "(net 4 6 none)\n(in a)\n(in c)\n(lin 1 (3 1) (-1 0))\n(boot 2 01011)\n(out y (n 3))\n") ∷
    []

pub computed : map mapped cases ≡ map expected cases
unfolding cases computing
computed = refl
