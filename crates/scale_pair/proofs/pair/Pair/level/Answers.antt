use Rattle.std.proofs.Common.{◌≡◌, ap, ◌∙◌, arith, nat_abs, w64, to_z, of_z, ◌-ℤ◌}
use Rattle.std.proofs.lemmas.Grind.{common_steps}
use Rattle.laws.specs.Integer.{ints, not-below}
use Rattle.scale_pair.specs.Pair.{level_of}
use Rattle.scale_pair.proofs.pair.Pair.level.Goals as goal
use Rattle.scale_pair.proofs.pair.Pair.level.Goals.{After-value}

above : (c : After-value) → to_z w64 (of_z w64 (to_z w64 (of_z w64 c.value.result) -ℤ to_z w64 (of_z w64 c.args.self.low))) ≡ c.value.result -ℤ c.args.self.low
above c = grind (arith, common_steps)

-- the value is not below the least one
pub overflow_cast-result : goal.overflow_cast-result
overflow_cast-result c =
    rw (above (goal.at.overflow_cast-result c).After-value)
    (not-below c.value.result c.args.self.low (grind (arith, common_steps, ints)), grind (arith, common_steps))

pub returns : goal.returns
unfolding level_of
returns c = ap nat_abs (above (goal.at.returns c).After-value) ∙ grind (arith, common_steps)
