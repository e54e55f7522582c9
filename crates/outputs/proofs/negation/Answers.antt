use Rattle.outputs.specs.Outputs.{negated_good, sum_signal, sum_finishes}
use Rattle.outputs.proofs.negation.Goals as goal

pub linear-requires : goal.linear-requires
linear-requires c = (c.requires.0, negated_good _ _ _ c.requires.1 c.negated.ensures)

pub returns : goal.returns
returns c = record { is = sum_signal _ _ _ c.negated.ensures _ _ _ c.linear.ensures; finishes = sum_finishes _ _ _ c.negated.ensures _ _ _ c.linear.ensures }
