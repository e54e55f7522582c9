use Rattle.std.proofs.Common.{ap, ◌∙◌, arith, unsigned_abs, to_z-of_z}
use Rattle.theorems.specs.Widths.{period_most}
use Rattle.phase.specs.Reckoned.{value_below, value_above}
use Rattle.phase.proofs.Period.is_value.Goals as goal

-- `phase::Period::is_value` meets its contract.
pub overflow_mul-result : goal.overflow_mul-result
overflow_mul-result c = record { fits = omega (arith, period_most c.args.self.p c.args.self.one_of_four) }

pub returns-then-v-ge0 : goal.returns-then-v-ge0
returns-then-v-ge0 c =
    value_above c.args.self.p c.args.self.one_of_four c.args.v _ (simp (to_z-of_z c.ranges.v) at c.if-v-ge0.true) (c.unsigned_abs.ensures.value ∙ ap unsigned_abs (to_z-of_z c.ranges.v))

pub returns-else-v-ge0 : goal.returns-else-v-ge0
returns-else-v-ge0 c = simp (to_z-of_z c.ranges.v) (value_below c.args.self.p c.args.self.one_of_four c.args.v (simp (to_z-of_z c.ranges.v) at c.if-v-ge0.false))
