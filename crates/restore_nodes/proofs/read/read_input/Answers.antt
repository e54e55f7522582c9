use Rattle.std.proofs.Common.{rules, arith}
use Rattle.restore_nodes.specs.Made.{input_fine}
use Rattle.restore_nodes.proofs.read.read_input.Goals as goal

pub returns-clause-sound : goal.returns-clause-sound
returns-clause-sound c =
    λ count. input_fine count c.of_input.result c.args.cell.now _ _ c.of_input.ensures (omega arith) (search rules) c.if-weight-eq0.false (omega arith)
