-- Made by tests/computed/make from the Rust's answers.
use Rattle.std.specs.Prelude.{◌≡◌, refl, List, [], ◌∷◌, map}
use Rattle.rules.specs.Computed.Case.{Case, ◌⇒◌, network, mapped, expected}
use Rattle.rules.specs.Computed.Computing.{computing}

pub cases : List Case
cases =
    -- one: equal sums in another order of their terms are two nodes
    ("(fbs 4 8 10 none span one)\n(in a)\n(in b)\n(gate g 0001 (n 0) (n 1))\n(gate h 0111 (n 1) (n 0))\n(out y (n 2))\n(out z (n 3))\n" ⇒ network "(net 4 8 none)\n(in a)\n(in b)\n(lin 0 (1 0) (1 1))\n(boot 2 001)\n(lin 0 (1 1) (1 0))\n(boot 4 011)\n(out y (n 3))\n(out z (n 5))\n") ∷
    -- one: an equal gate is one bootstrap, and its negation another table of the same sum
    ("(fbs 4 8 10 none span one)\n(in a)\n(in b)\n(gate g 0001 (n 0) (n 1))\n(gate h 0001 (n 0) (n 1))\n(gate i 1110 (n 0) (n 1))\n(out x (n 2))\n(out y (n 3))\n(out z (n 4))\n" ⇒ network "(net 4 8 none)\n(in a)\n(in b)\n(lin 0 (1 0) (1 1))\n(boot 2 001)\n(boot 2 110)\n(out x (n 3))\n(out y (n 3))\n(out z (n 4))\n") ∷
    -- many: one sum with two tables, realigned to the coefficients of the first
    ("(fbs 5 5 10 none span many)\n(in a)\n(in b)\n(gate g 1011 (n 1) (n 0))\n(gate h 0100 (n 0) (n 1))\n(out y (n 2))\n(out z (n 3))\n" ⇒ network "(net 5 5 none)\n(in a)\n(in b)\n(lin 1 (-1 0) (1 1))\n(boot 2 011)\n(boot 2 001)\n(out y (n 3))\n(out z (n 4))\n") ∷
    -- one: neither reuse nor realigning
    ("(fbs 4 8 10 none span one)\n(in a)\n(in b)\n(gate g 0001 (n 0) (n 1))\n(gate h 0110 (n 0) (n 1))\n(out y (n 2))\n(out z (n 3))\n" ⇒ network "(net 4 8 none)\n(in a)\n(in b)\n(lin 0 (1 0) (1 1))\n(boot 2 001)\n(lin 1 (1 0) (-1 1))\n(boot 4 101)\n(out y (n 3))\n(out z (n 5))\n") ∷
    -- many: a dead gate's sum is taken up
    ("(fbs 4 8 10 none basic many)\n(in a)\n(in b)\n(gate g 0111 (n 0) (n 1))\n(gate h 0110 (n 0) (n 1))\n(out y (n 3))\n" ⇒ network "(net 2 4 none)\n(in a)\n(in b)\n(lin 0 (1 0) (1 1))\n(boot 2 010)\n(out y (n 3))\n") ∷
    -- many: of two forms of one span and norm the first bootstrapped is taken
    ("(fbs 4 5 10 none basic many)\n(in a)\n(in b)\n(gate g 0001 (n 1) (n 0))\n(gate h 1011 (n 1) (n 0))\n(gate i 1001 (n 0) (n 1))\n(out y (n 4))\n" ⇒ network "(net 2 4 none)\n(in a)\n(in b)\n(lin 0 (1 0) (1 1))\n(boot 2 101)\n(out y (n 3))\n") ∷
    -- many: a form of more sources is not taken
    ("(fbs 5 5 3 none span many)\n(in a)\n(in b)\n(in c)\n(in d)\n(gate g 0001 (n 1) (n 2))\n(gate h 0111 (n 0) (n 4))\n(gate i 0001 (n 5) (n 3))\n(gate j 0110 (n 1) (n 2))\n(out y (n 6))\n(out z (n 7))\n" ⇒ network "(net 5 5 none)\n(in a)\n(in b)\n(in c)\n(in d)\n(lin 0 (2 0) (1 1) (1 2))\n(boot 4 00111)\n(lin 0 (1 3) (1 5))\n(boot 6 001)\n(lin 1 (1 1) (-1 2))\n(boot 8 101)\n(out y (n 7))\n(out z (n 9))\n") ∷
    -- many: XOR takes the sum that is bootstrapped already, though (1, -1) has less energy, and goes on into another sum
    ("(fbs 4 5 3 none span many)\n(in a)\n(in b)\n(in c)\n(in d)\n(gate g 0111 (n 0) (n 1))\n(gate h 0001 (n 2) (n 3))\n(gate i 0001 (n 4) (n 5))\n(gate j 0110 (n 0) (n 1))\n(gate k 0001 (n 7) (n 2))\n(out y (n 6))\n(out z (n 8))\n" ⇒ network "(net 4 5 none)\n(in a)\n(in b)\n(in c)\n(in d)\n(lin 0 (1 0) (1 1))\n(boot 4 011)\n(lin 0 (1 2) (1 3) (1 5))\n(boot 6 0001)\n(lin 2 (1 0) (1 1) (-2 2))\n(boot 8 01000)\n(out y (n 7))\n(out z (n 9))\n") ∷
    -- many: a bootstrapped sum of larger span is taken up, and goes on into another sum
    ("(fbs 6 6 4 none span many)\n(in a)\n(in b)\n(in c)\n(in d)\n(in e)\n(gate f 0001 (n 1) (n 2))\n(gate g 0111 (n 0) (n 5))\n(gate h 0001 (n 3) (n 4))\n(gate i 0001 (n 6) (n 7))\n(gate j 0001 (n 0) (n 5))\n(gate k 0001 (n 9) (n 3))\n(out y (n 10))\n" ⇒ network "(net 6 6 none)\n(in a)\n(in b)\n(in c)\n(in d)\n(lin 0 (2 0) (1 1) (1 2) (1 3))\n(boot 4 000001)\n(out y (n 5))\n") ∷
    -- many: two outputs on one gate become different nodes, since a form of less span was bootstrapped between them
    ("(fbs 5 5 3 none span many)\n(in a)\n(in b)\n(in c)\n(in d)\n(gate g 0001 (n 1) (n 2))\n(gate h 0111 (n 0) (n 4))\n(gate i 0001 (n 5) (n 3))\n(gate j 0001 (n 0) (n 4))\n(gate k 0001 (n 0) (n 1))\n(gate l 0111 (n 0) (n 1))\n(gate m 0001 (n 2) (n 9))\n(gate n 0111 (n 8) (n 10))\n(out x (n 7))\n(out y (n 11))\n(out z (n 7))\n" ⇒ network "(net 5 5 none)\n(in a)\n(in b)\n(in c)\n(lin 0 (2 0) (1 1) (1 2))\n(boot 3 00001)\n(lin 0 (1 0) (1 1) (1 2))\n(boot 5 0011)\n(boot 5 0001)\n(out x (n 4))\n(out y (n 6))\n(out z (n 7))\n") ∷
    -- a NOT named twice is one sum, and an output's name may repeat
    ("(fbs 4 8 10 none span many)\n(in a)\n(gate g 10 (n 0))\n(out y (n 1))\n(out y (n 1))\n(out z (n 0))\n" ⇒ network "(net 4 8 none)\n(in a)\n(lin 1 (-1 0))\n(out y (n 1))\n(out y (n 1))\n(out z (n 0))\n") ∷
    -- many: a form of as many sources, but not of the same, is not taken
    ("(fbs 4 8 1 none naive many)\n(in a)\n(in b)\n(in c)\n(gate g 1011 (n 1) (n 0))\n(gate h 0011 (n 0) (n 2))\n(gate i 0110 (n 3) (n 4))\n(out y (n 5))\n" ⇒ network "(net 4 8 none)\n(in a)\n(in b)\n(in c)\n(lin 0 (2 0) (1 1))\n(boot 3 1101)\n(lin 0 (1 0) (2 2))\n(boot 5 0101)\n(lin 0 (1 4) (2 6))\n(boot 7 0110)\n(out y (n 8))\n") ∷
    -- many: of two forms the one of less span, though its norm is larger
    ("(fbs 8 16 10 none span many)\n(in a)\n(in b)\n(in c)\n(gate g 0010 (n 0) (n 2))\n(gate h 0111 (n 3) (n 1))\n(gate i 0111 (n 1) (n 2))\n(gate j 0111 (n 4) (n 5))\n(gate k 0110 (n 2) (n 1))\n(gate l 1011 (n 3) (n 7))\n(gate m 0110 (n 8) (n 0))\n(gate n 0110 (n 1) (n 2))\n(gate o 0001 (n 1) (n 0))\n(gate p 0100 (n 10) (n 11))\n(out x (n 6))\n(out y (n 9))\n(out z (n 12))\n" ⇒ network "(net 8 16 none)\n(in a)\n(in b)\n(in c)\n(lin 0 (1 0) (4 1) (1 2))\n(boot 3 0110111)\n(lin 3 (2 0) (2 1) (-3 2))\n(boot 5 00110000)\n(boot 3 0000001)\n(out x (n 4))\n(out y (n 6))\n(out z (n 7))\n") ∷
    -- many: of two forms of one span the one of less norm, though the other was bootstrapped first
    ("(fbs 5 10 10 none span many)\n(in a)\n(in b)\n(in c)\n(gate g 0010 (n 2) (n 1))\n(gate h 0001 (n 2) (n 0))\n(gate i 0110 (n 3) (n 4))\n(gate j 0001 (n 1) (n 2))\n(gate k 0010 (n 5) (n 6))\n(gate l 0110 (n 0) (n 1))\n(gate m 1101 (n 8) (n 4))\n(gate n 1001 (n 0) (n 1))\n(gate o 1001 (n 1) (n 2))\n(gate p 0010 (n 10) (n 11))\n(out x (n 7))\n(out y (n 9))\n(out z (n 12))\n" ⇒ network "(net 5 10 none)\n(in a)\n(in b)\n(in c)\n(lin 1 (-1 0) (4 1) (1 2))\n(boot 3 0010000)\n(lin 5 (1 0) (-3 1) (-2 2))\n(boot 5 0101110)\n(boot 5 0001000)\n(out x (n 4))\n(out y (n 6))\n(out z (n 7))\n") ∷
    -- many: a sum that is bootstrapped already is found beside a source whose coefficient is 0
    ("(fbs 4 7 3 none span many)\n(in a)\n(in b)\n(in c)\n(in d)\n(gate g 1000 (n 0) (n 1))\n(gate h 1001 (n 3) (n 2))\n(gate i 1011 (n 4) (n 5))\n(gate j 0100 (n 0) (n 1))\n(gate k 0010 (n 2) (n 7))\n(gate l 0001 (n 3) (n 8))\n(gate m 0010 (n 0) (n 1))\n(gate n 1110 (n 10) (n 2))\n(gate o 1001 (n 0) (n 1))\n(gate p 0001 (n 11) (n 12))\n(out y (n 13))\n" ⇒ network "(net 4 7 none)\n(in a)\n(in b)\n(lin 0 (1 0) (1 1))\n(boot 2 101)\n(out y (n 3))\n") ∷
    []

pub computed : map mapped cases ≡ map expected cases
unfolding cases computing
computed = refl
