use Rattle.std.proofs.Common.{◌<◌, refl, arith}
use Rattle.theorems.specs.Widths.{some_step, period_most}
use Rattle.phase.specs.Reckoned.{circle, nearest_is}
use Rattle.phase.proofs.Period.nearest.Goals as goal
use Rattle.phase.proofs.Period.nearest.Goals.{After-step-step}

-- `phase::Period::nearest` meets its contract.
divides : (c : After-step-step) → 0 < c.step-step.result
divides c = omega (arith, some_step (circle c.args.self.p c.args.self.one_of_four), c.step-step.ensures)

pub nonzero_div-k : goal.nonzero_div-k
nonzero_div-k c = divides (goal.at.nonzero_div-k c).After-step-step

pub nonzero_rem-phase : goal.nonzero_rem-phase
nonzero_rem-phase c = divides (goal.at.nonzero_rem-phase c).After-step-step

pub overflow_mul-result : goal.overflow_mul-result
overflow_mul-result c = record { fits = omega (arith, period_most c.args.self.p c.args.self.one_of_four) }

pub nonzero_rem-result : goal.nonzero_rem-result
nonzero_rem-result c = omega (arith, (circle c.args.self.p c.args.self.one_of_four).some_slots)

pub returns : goal.returns
returns c = nearest_is c.args.self.p c.args.phase c.step-step.result _ _ c.step-step.ensures refl c.nearer.ensures
