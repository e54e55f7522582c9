-- Made by tests/computed/make from the Rust's answers.
use Rattle.std.specs.Prelude.{◌≡◌, refl, List, [], ◌∷◌, map}
use Rattle.rules.specs.Computed.Case.{Case, ◌⇒◌, network, refusal, mapped, expected}
use Rattle.rules.specs.Computed.Computing.{computing}

pub cases : List Case
cases =
    -- 9: naive has one pair, and at P = 2 its table 0001 is no rotation
    ("(fbs 2 4 10 none naive one)\n(in a)\n(in b)\n(gate g 0001 (n 0) (n 1))\n(out y (n 2))\n" ⇒ refusal 9 4) ∷
    -- 9: basic with M = P works with M = 2
    ("(fbs 4 4 10 none basic one)\n(in a)\n(in b)\n(gate g 0001 (n 0) (n 1))\n(out y (n 2))\n" ⇒ refusal 9 4) ∷
    -- 9: span at P = M = 2, at a gate that no output needs
    ("(fbs 2 2 10 none span many)\n(in a)\n(in b)\n(gate g 10 (n 0))\n(gate h 0001 (n 0) (n 1))\n(out y (n 2))\n" ⇒ refusal 9 5) ∷
    -- 9: a norm limit of 1
    ("(fbs 4 8 10 1 span one)\n(in a)\n(in b)\n(gate g 10 (n 1))\n(gate h 0110 (n 0) (n 1))\n(out y (n 3))\n" ⇒ refusal 9 5) ∷
    -- 8: a NOT at norm limit 0
    ("(fbs 4 8 10 0 span one)\n(in a)\n(gate g 10 (n 0))\n(out y (n 1))\n" ⇒ refusal 8 3) ∷
    -- norm limit 0 passes an output on an input
    ("(fbs 4 8 10 0 span one)\n(in a)\n(out y (n 0))\n" ⇒ network "(net 4 8 0)\n(in a)\n(out y (n 0))\n") ∷
    -- 8 at line 0: Basic's last check does not
    ("(fbs 4 8 10 0 basic one)\n(in a)\n(out y (n 0))\n" ⇒ refusal 8 0) ∷
    -- Basic's last check passes where pruning left no node
    ("(fbs 4 8 10 0 basic many)\n(in a)\n(gate g 11 (n 0))\n(out y (n 1))\n" ⇒ network "(net 2 4 0)\n(out y (k 1))\n") ∷
    -- 1: a digit that is no bit
    ("(fbs 4 8 10 none span one)\n(in a)\n(gate g 02 (n 0))\n" ⇒ refusal 1 3) ∷
    -- 2: M over 2P
    ("(fbs 4 9 8 none span one)\n" ⇒ refusal 2 1) ∷
    -- 3: a 33rd input
    ("(fbs 4 8 10 none span one)\n(in i0)\n(in i1)\n(in i2)\n(in i3)\n(in i4)\n(in i5)\n(in i6)\n(in i7)\n(in i8)\n(in i9)\n(in i10)\n(in i11)\n(in i12)\n(in i13)\n(in i14)\n(in i15)\n(in i16)\n(in i17)\n(in i18)\n(in i19)\n(in i20)\n(in i21)\n(in i22)\n(in i23)\n(in i24)\n(in i25)\n(in i26)\n(in i27)\n(in i28)\n(in i29)\n(in i30)\n(in i31)\n(in i32)\n" ⇒ refusal 3 34) ∷
    -- 4: an empty text
    ("" ⇒ refusal 4 1) ∷
    -- 5: an input's name again
    ("(fbs 4 8 10 none span one)\n(in a)\n(in a)\n" ⇒ refusal 5 3) ∷
    -- 6: a wire to no earlier node
    ("(fbs 4 8 10 none span one)\n(gate g 10 (n 0))\n" ⇒ refusal 6 2) ∷
    -- 7: two wires and two bits
    ("(fbs 4 8 10 none span one)\n(in a)\n(in b)\n(gate g 10 (n 0) (n 1))\n" ⇒ refusal 7 4) ∷
    -- Basic's last check asks for norms, not for the number of nodes
    ("(fbs 8 15 10 2 basic many)\n(in a)\n(in b)\n(gate g 1110 (k 1) (n 0))\n(out y (n 2))\n(out z (n 1))\n" ⇒ network "(net 2 4 2)\n(in a)\n(in b)\n(lin 1 (-1 0))\n(out y (n 2))\n(out z (n 1))\n") ∷
    []

pub computed : map mapped cases ≡ map expected cases
unfolding cases computing
computed = refl
