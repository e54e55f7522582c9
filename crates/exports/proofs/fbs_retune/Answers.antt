use Rattle.exports.specs.Laws.{retuned_answered, safe_answered}
use Rattle.exports.proofs.fbs_retune.Goals as goal

pub returns-clause-decided : goal.returns-clause-decided
returns-clause-decided c d = retuned_answered _ _ _ _ _ _ _ c.from.ensures.is c.from.ensures.begun (c.retune.ensures.decided d)

pub returns-clause-safe : goal.returns-clause-safe
returns-clause-safe c = safe_answered _ _ _ _ c.from.ensures.is c.retune.ensures.safe

pub returns-clause-behind : goal.returns-clause-behind
returns-clause-behind c = c.retune.ensures.behind
