use Rattle.std.proofs.Common.{map, take}
use Rattle.forms.specs.Forms.{given_of}
use Rattle.gates.specs.Start.{Started}
use Rattle.gates.proofs.start.start.Given as goal

abbrev pub invariant-loop-i : goal.invariant-loop-i
invariant-loop-i l = Started (take l.i (map given_of l.circuit.inputs.items)) l.store l.wires.items
