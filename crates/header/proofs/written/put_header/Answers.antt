use Rattle.std.proofs.lemmas.List.{length-map}
use Rattle.forms.specs.Forms.{given_of, output_of}
use Rattle.circuit.specs.View.{gate_of}
use Rattle.lines.specs.Put.{put_both}
use Rattle.retuning.specs.Kept.{header_bytes}
use Rattle.header.proofs.written.put_header.Goals as goal

pub returns : goal.returns
unfolding header_bytes
returns c =
    rw (length-map c.args.inputs.now given_of, length-map c.args.gates.now gate_of, length-map c.args.outputs.now output_of)
    (put_both (put_both (put_both (put_both (put_both c.put.ensures c.put_settings.ensures) c.put_all.ensures) c.put_inputs.ensures) c.put_gates.ensures) c.put_outputs.ensures)
