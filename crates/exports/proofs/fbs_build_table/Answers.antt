use Rattle.exports.specs.Laws.{built_answered}
use Rattle.exports.proofs.fbs_build_table.Goals as goal

pub returns : goal.returns
returns c = built_answered _ _ _ _ c.from.ensures c.composed_bootstrap_table.ensures
