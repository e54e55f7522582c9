use Rattle.std.proofs.Common.{rules}
use Rattle.exports.specs.Places.{values_answered}
use Rattle.exports.proofs.fbs_value_counts.Goals as goal

pub returns : goal.returns
returns c = values_answered _ _ _ _ c.from.ensures c.value_counts.ensures.few (search rules) c.value_counts.ensures.is
