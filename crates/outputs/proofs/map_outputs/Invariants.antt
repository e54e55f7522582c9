use Rattle.std.proofs.Common.{◌≡◌, ◌+◌, [], map, length}
use Rattle.cone.specs.View.{cone_of}
use Rattle.outputs.specs.OutputsWalk.{outputs_from, Way}
use Rattle.outputs.proofs.map_outputs.Given as goal

abbrev pub invariant-loop-output : goal.invariant-loop-output
invariant-loop-output l =
    record {
      way : Way l.s.settings.p l.initial.store (length l.circuit.inputs.items + length l.circuit.gates.items) l.wires.items l.output-index l.store l.outputs.items;
      same : outputs_from l.s.settings (map cone_of l.wires.items) l.circuit.outputs.items l.output-index l.store l.outputs.items
          ≡ outputs_from l.s.settings (map cone_of l.wires.items) l.circuit.outputs.items 0 l.initial.store [];
    }
