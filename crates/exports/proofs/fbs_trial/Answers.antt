use Rattle.exports.specs.Laws.{trial_answered}
use Rattle.exports.proofs.fbs_trial.Goals as goal

pub returns : goal.returns
returns c = trial_answered _ _ _ _ c.from.ensures c.trial.ensures
