use Rattle.std.proofs.Common.{ap, ◌∙◌, unsigned_abs, to_z-of_z}
use Rattle.phase.specs.Reckoned.{stands, phase_is}
use Rattle.phase.proofs.Period.phase.Goals as goal

-- `phase::Period::phase` meets its contract.
pub overflow_mul-unsigned_abs : goal.overflow_mul-unsigned_abs
overflow_mul-unsigned_abs c =
    record { fits = stands c.args.self.p c.args.self.one_of_four c.args.v c.requires _ _ (c.unsigned_abs.ensures.value ∙ ap unsigned_abs (to_z-of_z c.ranges.v)) c.step.ensures }

pub returns : goal.returns
returns c = c.moved.ensures ∙ phase_is c.args.self.p _ _ _ _ c.args.e (c.unsigned_abs.ensures.value ∙ ap unsigned_abs (to_z-of_z c.ranges.v)) c.step.ensures (to_z-of_z c.ranges.e)
