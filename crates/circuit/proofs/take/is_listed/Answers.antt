use Rattle.std.proofs.Common.{rules}
use Rattle.circuit.specs.Took.{any_listed}
use Rattle.circuit.proofs.take.is_listed.Goals as goal

pub returns : goal.returns
returns c = any_listed c.args.name.now c.args.inputs.now c.any.result (search rules)
