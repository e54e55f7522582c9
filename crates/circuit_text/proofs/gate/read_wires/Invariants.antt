use Rattle.std.proofs.Common.{◌≡◌, length}
use Rattle.circuit_conditions.specs.Wires.{no_wires}
use Rattle.circuit_text.specs.WiresRead.{wires_from}
use Rattle.circuit_text.proofs.gate.read_wires.Given as goal

abbrev pub invariant-loop-w : goal.invariant-loop-w
invariant-loop-w l = wires_from l.n l.v l.left ≡ wires_from l.n no_wires l.s

abbrev pub decreases-loop-w : goal.decreases-loop-w
decreases-loop-w l = length l.left
