use Rattle.exports.specs.Laws.{answered}
use Rattle.exports.proofs.fbs_map.Goals as goal

pub returns : goal.returns
returns c = answered _ _ _ _ c.from.ensures c.map.ensures
