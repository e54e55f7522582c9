use Rattle.std.proofs.Common.{rules}
use Rattle.rules.specs.Mapper.{leads_to}
use Rattle.gates.specs.Gates.{any_named}
use Rattle.gates.proofs.is_output.Goals as goal

pub returns : goal.returns
unfolding leads_to
returns c = any_named c.args.id c.args.outputs.now c.any.result (search rules)
