use Rattle.std.proofs.Common.{length}
use Rattle.circuit.specs.View.{prefix_of}
use Rattle.circuit.specs.Reading.{Reads}
use Rattle.circuit.proofs.read.Given as goal

abbrev pub invariant-loop-rest : goal.invariant-loop-rest
invariant-loop-rest l = Reads l.text l.line (prefix_of l.circuit) l.rest

abbrev pub decreases-loop-rest : goal.decreases-loop-rest
decreases-loop-rest l = length l.rest
