use Rattle.std.proofs.Common.{map}
use Rattle.laws.specs.Front.{Filling}
use Rattle.rules.specs.Network.{output_values}
use Rattle.forms.specs.Forms.{output_of}
use Rattle.network_run.proofs.write.write_values.Given as goal

abbrev pub invariant-loop-i : goal.invariant-loop-i
invariant-loop-i l = Filling (output_values (map output_of l.outputs) l.node_values) l.initial.values l.values l.i
