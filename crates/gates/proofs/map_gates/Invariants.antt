use Rattle.std.proofs.Common.{◌≡◌, ◌+◌, ◌*◌, map, length}
use Rattle.forms.specs.Forms.{output_of}
use Rattle.gates.specs.Gates.{Worked}
use Rattle.gates.specs.Loop.{gates_from, begun_from}
use Rattle.gates.proofs.map_gates.Given as goal

abbrev pub invariant-loop-gate : goal.invariant-loop-gate
invariant-loop-gate l =
    record {
      worked : Worked l.s.settings.p l.initial.store (6 * l.gate-index) l.store l.wires.items (length l.initial.wires.items + l.gate-index);
      same : gates_from l.s.settings (map output_of l.outputs) l.gates l.gate-index l.store l.wires.items
          ≡ gates_from l.s.settings (map output_of l.outputs) l.gates 0 l.initial.store l.initial.wires.items;
      count : l.begun ≡ l.initial.begun + l.gate-index;
      all : l.gate-index + begun_from l.s.settings (map output_of l.outputs) l.gates l.gate-index l.store l.wires.items
          ≡ begun_from l.s.settings (map output_of l.outputs) l.gates 0 l.initial.store l.initial.wires.items;
    }
