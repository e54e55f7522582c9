use Rattle.std.proofs.Common.{◌∙◌}
use Rattle.gates.specs.Gates.{unary_bits, binary_bits, unary_is}
use Rattle.gates.proofs.map_gate.Goals as goal

pub map_unary-requires : goal.map_unary-requires
map_unary-requires c = (c.wire_cone.ensures.stands _ _ c.requires.1.0, unary_bits _ _ c.requires.1.1 _ _ c.in-Unary.is)

pub map_with_two_wires-requires : goal.map_with_two_wires-requires
map_with_two_wires-requires c =
    let w = c.requires.1.0 in
    (c.requires.0, c.wire_cone-in-Binary.ensures.stands _ _ w, c.wire_cone-in-Binary-2.ensures.stands _ _ w, binary_bits _ _ c.requires.1.1 _ _ _ c.in-Binary.is)

pub returns-in-Unary-clause-is : goal.returns-in-Unary-clause-is
returns-in-Unary-clause-is c = c.map_unary.ensures.is ∙ unary_is _ _ _ _ _ _ c.in-Unary.is _ c.wire_cone.ensures.is
