use Rattle.std.proofs.Common.{◌≡◌, sym, ap, ◌∙◌, arith, ℕ, ℤ, pos, nat_abs, ◌-ℤ◌, ◌≤ℤ◌, ◌<◌, length, w32, to_z, of_z}
use Rattle.rules.specs.Cone as rules
use Rattle.laws.specs.Integer.{plus, minus, abs_parts, sub_parts, one_part_zero, read_back-at}
use Rattle.rules.specs.Span.{least}
use Rattle.cone.specs.declared.Cone.{Cone}
use Rattle.cone.specs.View.{cone_of, low_below, low_small}
use Rattle.rotation.specs.Entries.{number_at}
use Rattle.cone.specs.Unary.{first_row}
use Rattle.cone.proofs.unary.first_truth.Goals as goal
use Rattle.cone.proofs.unary.first_truth.Goals.{After-low_of, After-offset}

-- `cone::unary::first_truth` meets its contract: the first row has the value 0.
opposite : (z : ℤ) → nat_abs (pos 0 -ℤ z) ≡ nat_abs z
unfolding plus minus
opposite z =
    omega (arith, abs_parts z, abs_parts (pos 0 -ℤ z), sub_parts (pos 0) z, one_part_zero z, one_part_zero (pos 0 -ℤ z))

below : (low l : ℤ) → l ≡ low → low ≤ℤ pos 0 → l ≤ℤ pos 0
below low l e h = rw e h

-- the least value, and where the value 0 stands
low-is : (c : After-low_of) → to_z w32 (of_z w32 c.low_of.result) ≡ least (rules.values (cone_of c.args.c))
low-is c = read_back-at w32 c.low_of.result c.low_of.type_inv ∙ c.low_of.ensures

place : (k : ℕ) (z low : ℤ) → k ≡ nat_abs (pos 0 -ℤ z) → z ≡ low → k ≡ nat_abs (pos 0 -ℤ low)
place k z low e f = e ∙ ap (λ y. nat_abs (pos 0 -ℤ y)) f

pub offset-requires : goal.offset-requires
offset-requires c = below _ _ (low-is (goal.at.offset-requires c).After-low_of) (low_below c.args.c)

place-is : (c : After-offset) → c.offset.result ≡ nat_abs (pos 0 -ℤ least (rules.values (cone_of c.args.c)))
place-is c = place _ _ _ c.offset.ensures.0 (read_back-at w32 c.low_of.result c.low_of.type_inv ∙ c.low_of.ensures)

-- the value 0 has an entry
inside : (c : Cone) (k : ℕ) → k ≡ nat_abs (pos 0 -ℤ least (rules.values (cone_of c))) → k < 32
inside c k e = omega (arith, e, opposite (least (rules.values (cone_of c))), low_small c)

pub bounds-c-offset : goal.bounds-c-offset
bounds-c-offset c = inside c.args.c c.offset.result (place-is (goal.at.bounds-c-offset c).After-offset)

pub returns : goal.returns
returns c =
    let at = (goal.at.returns c).After-offset in
    let l : c.offset.result < length c.args.c.known = omega (arith, inside c.args.c c.offset.result (place-is at), c.args.c.entries_long) in
    c.number_of.ensures ∙ sym (number_at c.args.c.known c.offset.result _ l) ∙ sym (first_row c.args.c c.offset.result (place-is at))
