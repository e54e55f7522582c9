use Rattle.std.proofs.Common.{rules}
use Rattle.exports.specs.Places.{ones_answered}
use Rattle.exports.proofs.fbs_ones.Goals as goal

pub returns : goal.returns
returns c = ones_answered _ _ _ _ c.from.ensures c.ones.ensures.few (search rules) c.ones.ensures.is
