use Rattle.std.proofs.Common.{◌≡◌, ◌∙◌, arith, ℕ, ◌≤◌, length, rules, Some}
use Rattle.rules.specs.Mapper.{constant_value}
use Rattle.cone.specs.declared.Cone.{Cone}
use Rattle.cone.specs.View.{cone_of, constant_of, truth-bit}
use Rattle.gate.specs.GateSteps.{bit_of, no_of, two_bits, two_left, two_right, two_binary}
use Rattle.gate.proofs.map.map_with_two_wires.Goals as goal
use Rattle.gate.proofs.map.map_with_two_wires.Goals.{Start}

-- `gate::map::map_with_two_wires` meets its contract.
long : (c : Start) → length c.args.gate ≡ 4
long c = search rules

-- the constant side's bit
small : (k : Cone) (v : ℕ) → Some v ≡ constant_of (cone_of k) → v ≤ 1
unfolding constant_value
small k v e = omega (arith, (bit_of (cone_of k) v e).1, truth-bit k 0)

pub bounds-gate-at : goal.bounds-gate-at
bounds-gate-at c = omega (arith, small c.args.left c.in-Some.v c.in-Some.ensures)

pub bounds-gate-at-in-Some : goal.bounds-gate-at-in-Some
bounds-gate-at-in-Some c = omega (arith, small c.args.left c.in-Some.v c.in-Some.ensures)

pub map_unary-requires : goal.map_unary-requires
map_unary-requires c = (c.requires.2, two_bits c.args.gate _ _ c.requires.3)

pub returns-in-Some-clause-is : goal.returns-in-Some-clause-is
returns-in-Some-clause-is c =
    let a = c.args in
    let b = bit_of (cone_of a.left) _ c.in-Some.ensures in
    c.map_unary.ensures.is ∙ two_left a.s.settings _ (cone_of a.left) (cone_of a.right) a.gate _ b.0 b.1 (small a.left _ c.in-Some.ensures) (long (goal.at.returns-in-Some-clause-is c).Start)

pub bounds-gate-at-in-Some-constant_value : goal.bounds-gate-at-in-Some-constant_value
bounds-gate-at-in-Some-constant_value c = omega (arith, small c.args.right c.in-Some-constant_value.v c.in-Some-constant_value.ensures)

pub bounds-gate-at-in-Some-constant_value-2 : goal.bounds-gate-at-in-Some-constant_value-2
bounds-gate-at-in-Some-constant_value-2 c = omega (arith, small c.args.right c.in-Some-constant_value.v c.in-Some-constant_value.ensures)

pub map_unary-requires-in-Some-constant_value : goal.map_unary-requires-in-Some-constant_value
map_unary-requires-in-Some-constant_value c = (c.requires.1, two_bits c.args.gate _ _ c.requires.3)

pub returns-in-Some-constant_value-clause-is : goal.returns-in-Some-constant_value-clause-is
returns-in-Some-constant_value-clause-is c =
    let a = c.args in
    let n = no_of (cone_of a.left) c.in_default.ensures in
    let b = bit_of (cone_of a.right) _ c.in-Some-constant_value.ensures in
    c.map_unary-in-Some-constant_value.ensures.is ∙ two_right a.s.settings _ (cone_of a.left) (cone_of a.right) a.gate _ n b.0 b.1

pub returns-clause-is : goal.returns-clause-is
returns-clause-is c =
    let a = c.args in
    let n = no_of (cone_of a.left) c.in_default.ensures in
    let m = no_of (cone_of a.right) c.in_default-constant_value.ensures in
    c.map_binary.ensures.is ∙ two_binary a.s.settings _ (cone_of a.left) (cone_of a.right) a.gate n m
