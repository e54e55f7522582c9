use Rattle.std.proofs.Common.{◌≡◌, sym, ap, ◌∙◌, ℕ, max, ℤ, pos, arith}
use Rattle.std.specs.Int.{int_max}
use Rattle.std.proofs.lemmas.Int.{ints, clamps}
use Rattle.laws.specs.Integer.{read_back}
use Rattle.rules.specs.Scale.{gcd_from, divisor}
use Rattle.scale.proofs.coefficient_normalization_divisor.Goals as goal
use Rattle.scale.proofs.coefficient_normalization_divisor.Goals.{After-max-d}

at_least_one : (g : ℕ) → int_max (pos g) (pos 1) ≡ pos (max g 1)
at_least_one g = omega (arith, ints, clamps)

-- d is the gcd, and at least 1
d-is : (c : After-max-d) → c.max-d.result ≡ pos (max (gcd_from 0 c.args.coefs.now) 1)
d-is c = c.max-d.ensures.value ∙ ap (λ (z : ℤ). int_max z (pos 1)) (read_back c.common_divisor.result c.common_divisor.type_inv ∙ c.common_divisor.ensures) ∙ at_least_one _

-- `scale::coefficient_normalization_divisor` meets its contract.
pub returns-then-starts_negative : goal.returns-then-starts_negative
unfolding divisor
returns-then-starts_negative c = rw (sym c.starts_negative.ensures ∙ c.if-starts_negative.true) (omega (arith, ints, d-is (goal.at.returns-then-starts_negative c).After-max-d))

pub returns-else-starts_negative : goal.returns-else-starts_negative
unfolding divisor
returns-else-starts_negative c = rw (sym c.starts_negative.ensures ∙ c.if-starts_negative.false) (read_back c.max-d.result c.max-d.type_inv ∙ d-is (goal.at.returns-else-starts_negative c).After-max-d)
