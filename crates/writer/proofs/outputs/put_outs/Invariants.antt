use Rattle.std.specs.Prelude.{map}
use Rattle.forms.specs.Forms.{output_of}
use Rattle.rules.specs.Writing.{outputs_text}
use Rattle.lines.specs.Put.{Left}
use Rattle.writer.specs.Outputs.{live_outputs, outputs_left}
use Rattle.writer.proofs.outputs.put_outs.Given as goal

abbrev pub invariant-loop-output : goal.invariant-loop-output
invariant-loop-output l =
    Left (outputs_text (live_outputs l.live (map output_of l.outputs))) l.initial.cursor (outputs_left l.live l.outputs l.output-index) l.cursor
