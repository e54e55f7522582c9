use Rattle.std.proofs.Common.{◌≡◌, ◌+◌, length}
use Rattle.circuit_run.specs.Run.{values_from}
use Rattle.circuit_run.proofs.run.gate_values.Given as goal

abbrev pub invariant-loop-gate : goal.invariant-loop-gate
invariant-loop-gate l =
    (length l.values.items ≡ length l.bits + l.gate-index) × (values_from l.values.items l.gates l.gate-index ≡ values_from l.bits l.gates 0)
