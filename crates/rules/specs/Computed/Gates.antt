-- Made by tests/computed/make from the Rust's answers.
use Rattle.std.specs.Prelude.{◌≡◌, refl, List, [], ◌∷◌, map}
use Rattle.rules.specs.Computed.Case.{Case, ◌⇒◌, network, mapped, expected}
use Rattle.rules.specs.Computed.Computing.{computing}

pub cases : List Case
cases =
    -- NOT of an input
    ("(fbs 4 8 10 none span one)\n(in a)\n(gate g 10 (n 0))\n(out y (n 1))\n" ⇒ network "(net 4 8 none)\n(in a)\n(lin 1 (-1 0))\n(out y (n 1))\n") ∷
    -- NOT of a cone goes into the table
    ("(fbs 2 4 10 none span many)\n(in a)\n(in b)\n(gate g 0001 (n 0) (n 1))\n(gate h 10 (n 2))\n(out y (n 3))\n" ⇒ network "(net 2 4 none)\n(in a)\n(in b)\n(lin 0 (1 0) (1 1))\n(boot 2 110)\n(out y (n 3))\n") ∷
    -- a constant on the left, on the right, on both sides, and at an output
    ("(fbs 2 4 10 none span one)\n(in a)\n(gate g 0110 (k 1) (n 0))\n(gate h 0010 (n 0) (k 0))\n(gate i 0010 (k 1) (k 0))\n(gate j 11 (n 0))\n(out v (n 1))\n(out w (n 2))\n(out x (n 3))\n(out y (n 4))\n(out z (k 0))\n" ⇒ network "(net 2 4 none)\n(in a)\n(lin 1 (-1 0))\n(out v (n 1))\n(out w (n 0))\n(out x (k 1))\n(out y (k 1))\n(out z (k 0))\n") ∷
    -- one wire on both sides: XOR, NAND and OR of it
    ("(fbs 2 4 10 none span many)\n(in a)\n(gate g 0110 (n 0) (n 0))\n(gate h 1110 (n 0) (n 0))\n(gate i 0111 (n 0) (n 0))\n(out x (n 1))\n(out y (n 2))\n(out z (n 3))\n" ⇒ network "(net 2 4 none)\n(in a)\n(lin 1 (-1 0))\n(out x (k 0))\n(out y (n 1))\n(out z (n 0))\n") ∷
    -- a gate that goes by one side only: its other source is dropped, and that input with it
    ("(fbs 3 6 10 none span one)\n(in a)\n(in b)\n(gate g 0101 (n 0) (n 1))\n(out y (n 2))\n" ⇒ network "(net 3 6 none)\n(in b)\n(out y (n 0))\n") ∷
    -- b XOR (a XOR b) is a: the source b drops out of the cone
    ("(fbs 4 8 10 none span many)\n(in a)\n(in b)\n(in c)\n(gate g 0110 (n 0) (n 1))\n(gate h 0110 (n 1) (n 3))\n(gate i 0001 (n 4) (n 2))\n(out y (n 5))\n" ⇒ network "(net 4 8 none)\n(in a)\n(in c)\n(lin 0 (1 0) (1 1))\n(boot 2 001)\n(out y (n 3))\n") ∷
    -- the larger side comes first, and the gate's answers 1 and 2 change places
    ("(fbs 4 8 10 none span one)\n(in a)\n(in b)\n(in c)\n(gate g 0001 (n 1) (n 2))\n(gate h 0100 (n 0) (n 3))\n(out y (n 4))\n" ⇒ network "(net 4 8 none)\n(in a)\n(in b)\n(in c)\n(lin 1 (1 1) (1 2) (-1 0))\n(boot 3 0001)\n(out y (n 4))\n") ∷
    -- of two sides of one span the one of larger norm comes first
    ("(fbs 5 5 10 none span one)\n(in a)\n(in b)\n(in c)\n(in d)\n(gate g 0001 (n 0) (n 1))\n(gate h 0001 (n 4) (n 2))\n(gate i 0001 (n 5) (n 3))\n(gate j 0001 (n 1) (n 2))\n(gate k 0111 (n 0) (n 7))\n(gate l 0001 (n 6) (n 8))\n(out y (n 9))\n" ⇒ network "(net 5 5 none)\n(in a)\n(in b)\n(in c)\n(in d)\n(lin 0 (1 1) (1 2) (1 0) (1 3))\n(boot 4 00001)\n(out y (n 5))\n") ∷
    -- the side of larger span comes first, though its norm is less
    ("(fbs 8 8 10 none span one)\n(in a)\n(in b)\n(in c)\n(in d)\n(in e)\n(gate g 0001 (n 0) (n 1))\n(gate h 0001 (n 5) (n 2))\n(gate i 0001 (n 6) (n 3))\n(gate j 0001 (n 7) (n 4))\n(gate k 0001 (n 1) (n 2))\n(gate l 0111 (n 0) (n 9))\n(gate m 0001 (n 10) (n 8))\n(out y (n 11))\n" ⇒ network "(net 8 8 none)\n(in a)\n(in b)\n(in c)\n(in d)\n(in e)\n(lin 0 (1 0) (1 1) (1 2) (1 3) (1 4))\n(boot 5 000001)\n(out y (n 6))\n") ∷
    -- majority: the merged coefficients 2, 2, 2 are divided by 2
    ("(fbs 5 5 10 none span many)\n(in a)\n(in b)\n(in c)\n(gate g 0001 (n 0) (n 1))\n(gate h 0111 (n 0) (n 1))\n(gate i 0001 (n 2) (n 4))\n(gate j 0111 (n 3) (n 5))\n(out y (n 6))\n" ⇒ network "(net 5 5 none)\n(in a)\n(in b)\n(in c)\n(lin 0 (1 0) (1 1) (1 2))\n(boot 3 0011)\n(out y (n 4))\n") ∷
    -- an input and a gate that nothing needs, between others
    ("(fbs 2 4 10 none span one)\n(in a)\n(in b)\n(in c)\n(gate g 0110 (n 0) (n 1))\n(gate h 0001 (n 0) (n 2))\n(out y (n 4))\n" ⇒ network "(net 2 4 none)\n(in a)\n(in c)\n(lin 0 (1 0) (1 1))\n(boot 2 001)\n(out y (n 3))\n") ∷
    -- a gate that is always 1
    ("(fbs 4 4 10 none span many)\n(in a)\n(gate g 1001 (n 0) (n 0))\n(out y (n 1))\n" ⇒ network "(net 4 4 none)\n(out y (k 1))\n") ∷
    []

pub computed : map mapped cases ≡ map expected cases
unfolding cases computing
computed = refl
