use Rattle.laws.specs.Front.{Filling}
use Rattle.circuit_run.specs.Run.{output_bits}
use Rattle.circuit_run.proofs.run.put_outputs.Given as goal

abbrev pub invariant-loop-i : goal.invariant-loop-i
invariant-loop-i l = Filling (output_bits l.values l.outputs) l.initial.out l.out l.i
