use Rattle.std.proofs.Common.{◌∙◌, ap, length}
use Rattle.gates.specs.Wired.{renewed_long}
use Rattle.gates.specs.Gates.{second_in}
use Rattle.gates.proofs.update_wires.Goals as goal

pub update_wire-requires-in-Binary-2 : goal.update_wire-requires-in-Binary-2
update_wire-requires-in-Binary-2 c = second_in _ _ _ c.requires (ap length c.update_wire-in-Binary.ensures ∙ renewed_long _ _ _) _ _ _ c.in-Binary.is
