use Rattle.std.specs.Prelude as P
use Rattle.std.proofs.Common.{rules}
use Rattle.rules.specs.Form.{either, onward}
use Rattle.text.specs.Capped.{capped}
use Rattle.forms.specs.Forms.{cap_output}
use Rattle.circuit_text.specs.declared.line.Line.TheVariants.{Fbs, In, Out}
use Rattle.circuit_text.specs.Brief.{brief, briefed}
use Rattle.circuit_text.specs.LineRead.{forms, whole_line}
use Rattle.circuit_text.proofs.line.read_line.Goals as goal

pub returns-in-Some : goal.returns-in-Some
unfolding either onward capped forms brief briefed
returns-in-Some c =
    let w = whole_line c.args.n c.args.s.now (P.Some (Fbs c.in-Some.settings, c.in-Some.rest)) (search rules) in
    record { line = w.0; rest = w.1 }

pub returns-in-Some-read_in : goal.returns-in-Some-read_in
unfolding either onward capped forms brief briefed
returns-in-Some-read_in c =
    let w = whole_line c.args.n c.args.s.now (P.Some (In c.in-Some-read_in.input, c.in-Some-read_in.rest)) (search rules) in
    record { line = w.0; rest = w.1 }

pub returns-in-Some-read_gate : goal.returns-in-Some-read_gate
unfolding either onward capped forms brief briefed
returns-in-Some-read_gate c =
    let w = whole_line c.args.n c.args.s.now (P.Some c.in-Some-read_gate.gate) (search rules) in
    record { line = w.0; rest = w.1 }

pub returns-in_err-output-clause-line : goal.returns-in_err-output-clause-line
unfolding either onward capped forms brief briefed
returns-in_err-output-clause-line c = (whole_line c.args.n c.args.s.now c.from_residual.result (search rules)).0

pub returns : goal.returns
unfolding either onward capped forms brief briefed cap_output
returns c =
    let w = whole_line c.args.n c.args.s.now (P.Some (Out c.in_ok-output.output, c.in_ok-output.rest)) (search rules) in
    record { line = w.0; rest = w.1 }
