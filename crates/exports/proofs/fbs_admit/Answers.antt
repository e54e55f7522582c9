use Rattle.std.proofs.Common.{ap, ◌∙◌}
use Rattle.exports.specs.Numbers.{admission_numbers}
use Rattle.exports.proofs.fbs_admit.Goals as goal

pub returns : goal.returns
returns c = c.from.ensures ∙ ap admission_numbers c.admit.ensures
