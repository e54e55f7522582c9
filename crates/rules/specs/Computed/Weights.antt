-- Made by tests/computed/make from the Rust's answers.
use Rattle.std.specs.Prelude.{◌≡◌, refl, List, [], ◌∷◌, map}
use Rattle.rules.specs.Computed.Case.{Case, ◌⇒◌, network, refusal, mapped, expected}
use Rattle.rules.specs.Computed.Computing.{computing}

pub cases : List Case
cases =
    -- the heavier side comes first
    ("(fbs 4 8 10 none span one)\n(in a)\n(in b 2)\n(gate g 0001 (n 0) (n 1))\n(out y (n 2))\n" ⇒ network "(net 4 8 none)\n(in a)\n(in b 2)\n(lin 0 (1 1) (1 0))\n(boot 2 001)\n(out y (n 3))\n") ∷
    -- naive: the heavier side comes first, here the left one, and has the larger coefficient
    ("(fbs 3 4 10 none naive many)\n(in a 3)\n(in b 2)\n(gate g 0001 (n 0) (n 1))\n(out y (n 2))\n" ⇒ network "(net 3 4 none)\n(in a 3)\n(in b 2)\n(lin 0 (2 0) (1 1))\n(boot 2 0001)\n(out y (n 3))\n") ∷
    -- the larger span comes first, however light it is
    ("(fbs 4 4 10 none span one)\n(in a)\n(in b)\n(in c 64)\n(gate g 0001 (n 0) (n 1))\n(gate h 0001 (n 2) (n 3))\n(out y (n 4))\n" ⇒ network "(net 4 4 none)\n(in a)\n(in b)\n(in c 64)\n(lin 0 (1 0) (1 1) (1 2))\n(boot 3 0001)\n(out y (n 4))\n") ∷
    -- the norm by weights picks the pair (1, -3), without weights it would be (2, -1)
    ("(fbs 5 6 10 none span one)\n(in a)\n(in b)\n(in c 2)\n(gate g 0110 (n 0) (n 2))\n(gate h 0001 (n 3) (n 1))\n(out y (n 4))\n" ⇒ network "(net 5 6 none)\n(in a)\n(in b)\n(in c 2)\n(lin 4 (1 2) (-1 0) (-3 1))\n(boot 3 101000)\n(out y (n 4))\n") ∷
    -- with these weights it is (2, -1) again: 75 is less than 80
    ("(fbs 5 6 10 none span one)\n(in a 8)\n(in b 7)\n(in c 9)\n(gate g 0110 (n 2) (n 0))\n(gate h 0001 (n 1) (n 3))\n(out y (n 4))\n" ⇒ network "(net 5 6 none)\n(in a 8)\n(in b 7)\n(in c 9)\n(lin 3 (2 2) (-2 0) (-1 1))\n(boot 3 100010)\n(out y (n 4))\n") ∷
    -- a merge is over NORM by weight, so a side is bootstrapped
    ("(fbs 3 4 10 3 span one)\n(in a)\n(in b 2)\n(in c)\n(gate g 0001 (n 0) (n 1))\n(gate h 0001 (n 2) (n 3))\n(out y (n 4))\n" ⇒ network "(net 3 4 3)\n(in a)\n(in b 2)\n(in c)\n(lin 0 (1 1) (1 0))\n(boot 3 001)\n(lin 0 (1 4) (1 2))\n(boot 5 001)\n(out y (n 6))\n") ∷
    -- a coefficient counts squared, times the weight: 9 times 16 and 2 are over NORM
    ("(fbs 3 6 10 145 span one)\n(in a 16)\n(in b)\n(in c)\n(gate g 0001 (n 2) (n 1))\n(gate h 0110 (n 3) (n 0))\n(out y (n 4))\n" ⇒ network "(net 3 6 145)\n(in a 16)\n(in b)\n(in c)\n(lin 0 (1 2) (1 1))\n(boot 3 001)\n(lin 1 (1 4) (-1 0))\n(boot 5 101)\n(out y (n 6))\n") ∷
    -- the weight counts once: 4 times 6 and 2 are NORM
    ("(fbs 3 5 10 26 span one)\n(in a 6)\n(in b)\n(in c)\n(gate g 0111 (n 1) (n 2))\n(gate h 0001 (n 0) (n 3))\n(out y (n 4))\n" ⇒ network "(net 3 5 26)\n(in a 6)\n(in b)\n(in c)\n(lin 0 (1 1) (1 2) (2 0))\n(boot 3 00011)\n(out y (n 4))\n") ∷
    -- many: realigned to 2a + b + c, of norm 7, though a + b + 2c, of norm 10, was bootstrapped first; without weights both have 6
    ("(fbs 4 5 10 none span many)\n(in a)\n(in b)\n(in c 2)\n(gate g 0001 (n 0) (n 1))\n(gate h 0111 (n 3) (n 2))\n(gate i 0001 (n 4) (n 0))\n(gate j 0001 (n 2) (n 1))\n(gate k 0111 (n 6) (n 0))\n(gate l 0111 (n 1) (n 2))\n(gate m 0111 (n 8) (n 0))\n(out y (n 7))\n(out z (n 9))\n" ⇒ network "(net 4 5 none)\n(in a)\n(in b)\n(in c 2)\n(lin 0 (2 0) (1 1) (1 2))\n(boot 3 00111)\n(boot 3 01111)\n(out y (n 4))\n(out z (n 5))\n") ∷
    -- a bootstrap weighs 1, whatever it stands on: the input comes first
    ("(fbs 2 3 10 none span one)\n(in a 2)\n(in b)\n(gate g 0001 (n 0) (n 1))\n(gate h 0001 (n 2) (n 0))\n(out y (n 3))\n(out z (n 2))\n" ⇒ network "(net 2 3 none)\n(in a 2)\n(in b)\n(lin 0 (1 0) (1 1))\n(boot 2 001)\n(lin 0 (1 0) (1 3))\n(boot 4 001)\n(out y (n 5))\n(out z (n 3))\n") ∷
    -- basic, 8 from the last check: an input over NORM is live
    ("(fbs 4 8 10 8 basic one)\n(in a 9)\n(in b)\n(gate g 10 (n 1))\n(out y (n 2))\n(out z (n 0))\n" ⇒ refusal 8 0) ∷
    -- basic: the same input is dead and does not count; the weight of the live one stays
    ("(fbs 4 8 10 8 basic one)\n(in a 9)\n(in b 2)\n(gate g 10 (n 1))\n(out y (n 2))\n" ⇒ network "(net 2 4 8)\n(in b 2)\n(lin 1 (-1 0))\n(out y (n 1))\n") ∷
    -- span: an output on an input heavier than NORM
    ("(fbs 4 8 10 8 span one)\n(in a 9)\n(out y (n 0))\n" ⇒ network "(net 4 8 8)\n(in a 9)\n(out y (n 0))\n") ∷
    -- 8 at a gate on one wire: the input is heavier than NORM
    ("(fbs 4 8 10 8 span one)\n(in a 9)\n(gate g 01 (n 0))\n(out y (n 1))\n" ⇒ refusal 8 3) ∷
    -- NORM is the weight
    ("(fbs 4 8 10 9 naive many)\n(in a 9)\n(gate g 10 (n 0))\n(out y (n 1))\n" ⇒ network "(net 4 8 9)\n(in a 9)\n(lin 1 (-1 0))\n(out y (n 1))\n") ∷
    -- 9 for AND of one wire: the input is heavier than NORM
    ("(fbs 4 8 10 8 span one)\n(in a 9)\n(gate g 0001 (n 0) (n 0))\n(out y (n 1))\n" ⇒ refusal 9 3) ∷
    -- AND of the two heaviest inputs at the sum of their weights
    ("(fbs 2 3 10 67 span one)\n(in a 3)\n(in b 2)\n(in c 64)\n(gate g 0001 (n 0) (n 2))\n(out y (n 3))\n" ⇒ network "(net 2 3 67)\n(in a 3)\n(in c 64)\n(lin 0 (1 1) (1 0))\n(boot 2 001)\n(out y (n 3))\n") ∷
    -- 9: AND of the two heaviest inputs, NORM one below
    ("(fbs 2 3 10 66 span one)\n(in a 3)\n(in b 2)\n(in c 64)\n(gate g 0001 (n 0) (n 2))\n(out y (n 3))\n" ⇒ refusal 9 5) ∷
    -- weight 1 is not written
    ("(fbs 4 8 10 none span one)\n(in a 1)\n" ⇒ refusal 1 2) ∷
    -- no weight over 64
    ("(fbs 4 8 10 none span one)\n(in a 2)\n(in b 65)\n" ⇒ refusal 1 3) ∷
    -- 5: an input's name again, with another weight
    ("(fbs 4 8 10 none span one)\n(in a 2)\n(in a 3)\n" ⇒ refusal 5 3) ∷
    []

pub computed : map mapped cases ≡ map expected cases
unfolding cases computing
computed = refl
