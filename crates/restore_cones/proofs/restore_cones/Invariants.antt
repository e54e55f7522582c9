use Rattle.restore_cones.proofs.Cells.{Restored}
use Rattle.restore_cones.proofs.restore_cones.Given as goal

abbrev pub invariant-loop-i : goal.invariant-loop-i
invariant-loop-i l = Restored l.count l.nodes l.bytes l.wires.items l.i
