use Rattle.std.proofs.Common.{refl}
use Rattle.phase.specs.Reckoned.{circle}
use Rattle.rules.specs.Phase.{step}
use Rattle.phase.proofs.Period.step.Goals as goal

-- `phase::Period::step` meets its contract.
pub nonzero_div-result : goal.nonzero_div-result
nonzero_div-result c = (circle c.args.self.p c.args.self.one_of_four).some_slots

pub returns : goal.returns
unfolding step
returns c = refl
