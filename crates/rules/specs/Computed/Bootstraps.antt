-- Made by tests/computed/make from the Rust's answers.
use Rattle.std.specs.Prelude.{◌≡◌, refl, List, [], ◌∷◌, map}
use Rattle.rules.specs.Computed.Case.{Case, ◌⇒◌, network, mapped, expected}
use Rattle.rules.specs.Computed.Computing.{computing}

pub cases : List Case
cases =
    -- one: a gate that an output names is bootstrapped where it stands, and the next builds on that
    ("(fbs 4 8 10 none span one)\n(in a)\n(in b)\n(in c)\n(gate g 0001 (n 0) (n 1))\n(gate h 0111 (n 3) (n 2))\n(out y (n 3))\n(out z (n 4))\n" ⇒ network "(net 4 8 none)\n(in a)\n(in b)\n(in c)\n(lin 0 (1 0) (1 1))\n(boot 3 001)\n(lin 0 (1 4) (1 2))\n(boot 5 011)\n(out y (n 4))\n(out z (n 6))\n") ∷
    -- many: it is bootstrapped only at its output
    ("(fbs 4 8 10 none span many)\n(in a)\n(in b)\n(in c)\n(gate g 0001 (n 0) (n 1))\n(gate h 0111 (n 3) (n 2))\n(out y (n 3))\n(out z (n 4))\n" ⇒ network "(net 4 8 none)\n(in a)\n(in b)\n(in c)\n(lin 0 (1 0) (1 1))\n(boot 3 001)\n(lin 0 (1 0) (1 1) (2 2))\n(boot 5 00111)\n(out y (n 4))\n(out z (n 6))\n") ∷
    -- the second attempt, with the larger side bootstrapped; a later gate finds that side bootstrapped
    ("(fbs 2 3 10 none span one)\n(in a)\n(in b)\n(in c)\n(gate g 0001 (n 0) (n 1))\n(gate h 0110 (n 3) (n 2))\n(gate i 0111 (n 3) (n 0))\n(out y (n 4))\n(out z (n 5))\n" ⇒ network "(net 2 3 none)\n(in a)\n(in b)\n(in c)\n(lin 0 (1 0) (1 1))\n(boot 3 001)\n(lin 1 (1 4) (-1 2))\n(boot 5 101)\n(lin 0 (1 4) (1 0))\n(boot 7 011)\n(out y (n 6))\n(out z (n 8))\n") ∷
    -- the same with the larger side second
    ("(fbs 2 3 10 none span one)\n(in a)\n(in b)\n(in c)\n(gate g 0001 (n 0) (n 1))\n(gate h 0110 (n 2) (n 3))\n(gate i 0111 (n 3) (n 2))\n(out y (n 4))\n(out z (n 5))\n" ⇒ network "(net 2 3 none)\n(in a)\n(in b)\n(in c)\n(lin 0 (1 0) (1 1))\n(boot 3 001)\n(lin 1 (1 4) (-1 2))\n(boot 5 101)\n(lin 0 (1 4) (1 2))\n(boot 7 011)\n(out y (n 6))\n(out z (n 8))\n") ∷
    -- the third attempt, with both sides bootstrapped
    ("(fbs 5 5 10 none naive many)\n(in a)\n(in b)\n(gate g 0110 (n 0) (n 1))\n(gate h 1110 (n 1) (n 0))\n(gate i 1000 (n 2) (n 3))\n(out y (n 4))\n" ⇒ network "(net 5 5 none)\n(in a)\n(in b)\n(lin 0 (2 0) (1 1))\n(boot 2 0110)\n(boot 2 1110)\n(lin 0 (2 3) (1 4))\n(boot 5 1000)\n(out y (n 6))\n") ∷
    -- a constant that only the second attempt finds: both sides become one bootstrap
    ("(fbs 4 7 10 none naive one)\n(in a)\n(in b)\n(gate g 1000 (n 1) (n 0))\n(gate h 0111 (n 2) (k 0))\n(gate i 0110 (n 3) (n 0))\n(gate j 0010 (n 2) (n 3))\n(out x (n 4))\n(out y (n 5))\n" ⇒ network "(net 4 7 none)\n(in a)\n(in b)\n(lin 0 (2 1) (1 0))\n(boot 2 1000)\n(lin 0 (2 3) (1 0))\n(boot 4 0110)\n(out x (n 5))\n(out y (k 0))\n") ∷
    -- T = 1 switches the sides of every gate on two inputs
    ("(fbs 4 8 1 none span one)\n(in a)\n(in b)\n(gate g 0100 (n 0) (n 1))\n(out y (n 2))\n" ⇒ network "(net 4 8 none)\n(in a)\n(in b)\n(lin 1 (1 1) (-1 0))\n(boot 2 001)\n(out y (n 3))\n") ∷
    -- T = 2 bootstraps one side
    ("(fbs 4 8 2 none span one)\n(in a)\n(in b)\n(in c)\n(gate g 0001 (n 0) (n 1))\n(gate h 0111 (n 3) (n 2))\n(out y (n 4))\n" ⇒ network "(net 4 8 none)\n(in a)\n(in b)\n(in c)\n(lin 0 (1 0) (1 1))\n(boot 3 001)\n(lin 0 (1 2) (1 4))\n(boot 5 011)\n(out y (n 6))\n") ∷
    -- T = 2: after the second attempt's bootstrap T + 1 sources are merged
    ("(fbs 4 8 2 none naive one)\n(in a)\n(in b)\n(gate g 1000 (n 1) (n 0))\n(gate h 0110 (n 1) (n 2))\n(gate i 1001 (n 2) (n 3))\n(out y (n 4))\n" ⇒ network "(net 4 8 none)\n(in a)\n(in b)\n(lin 0 (5 1) (2 0))\n(boot 2 10000111)\n(lin 0 (4 3) (2 1) (1 0))\n(boot 4 01111000)\n(out y (n 5))\n") ∷
    -- T = 2 bootstraps both sides; a later gate finds the second bootstrapped
    ("(fbs 4 8 2 none span many)\n(in a)\n(in b)\n(in c)\n(in d)\n(gate g 0001 (n 0) (n 1))\n(gate h 0111 (n 2) (n 3))\n(gate i 0100 (n 4) (n 5))\n(gate j 0110 (n 5) (n 0))\n(out y (n 6))\n(out z (n 7))\n" ⇒ network "(net 4 8 none)\n(in a)\n(in b)\n(in c)\n(in d)\n(lin 0 (1 0) (1 1))\n(boot 4 001)\n(lin 0 (1 2) (1 3))\n(boot 6 011)\n(lin 1 (-1 5) (1 7))\n(boot 8 001)\n(lin 1 (-1 0) (1 7))\n(boot 10 101)\n(out y (n 9))\n(out z (n 11))\n") ∷
    -- T = 1 and one cone of two sources on both sides of a gate
    ("(fbs 4 8 1 none span many)\n(in a)\n(in b)\n(gate g 0001 (n 0) (n 1))\n(gate h 1110 (n 2) (n 2))\n(out y (n 3))\n" ⇒ network "(net 4 8 none)\n(in a)\n(in b)\n(lin 0 (1 0) (1 1))\n(boot 2 001)\n(lin 1 (-1 3))\n(out y (n 4))\n") ∷
    -- a norm limit of 3 bootstraps a sum of three before the fourth joins
    ("(fbs 8 16 10 3 span one)\n(in a)\n(in b)\n(in c)\n(in d)\n(gate g 0001 (n 0) (n 1))\n(gate h 0001 (n 4) (n 2))\n(gate i 0001 (n 5) (n 3))\n(out y (n 6))\n" ⇒ network "(net 8 16 3)\n(in a)\n(in b)\n(in c)\n(in d)\n(lin 0 (1 0) (1 1) (1 2))\n(boot 4 0001)\n(lin 0 (1 5) (1 3))\n(boot 6 001)\n(out y (n 7))\n") ∷
    -- the third attempt: a later gate finds the second side bootstrapped
    ("(fbs 6 9 10 none naive many)\n(in a)\n(in b)\n(in c)\n(gate g 1101 (n 2) (n 0))\n(gate h 1101 (n 1) (n 0))\n(gate i 1001 (n 4) (n 3))\n(gate j 1110 (n 3) (n 3))\n(out y (n 6))\n" ⇒ network "(net 6 9 none)\n(in a)\n(in c)\n(lin 0 (1 0) (2 1))\n(boot 2 1101)\n(lin 1 (-1 3))\n(out y (n 4))\n") ∷
    -- basic at T = 1: the sides are switched
    ("(fbs 16 26 1 none basic many)\n(in a)\n(in b)\n(gate g 0100 (n 0) (n 1))\n(out y (n 2))\n" ⇒ network "(net 2 4 none)\n(in a)\n(in b)\n(lin 1 (-1 0) (1 1))\n(boot 2 001)\n(out y (n 3))\n") ∷
    []

pub computed : map mapped cases ≡ map expected cases
unfolding cases computing
computed = refl
