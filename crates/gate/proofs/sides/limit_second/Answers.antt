use Rattle.std.proofs.Common.{sym, ◌∙◌}
use Rattle.gate.specs.Gate.{left_is, left_steps}
use Rattle.gate.specs.GateSteps.{second_not, second-over, steps_none}
use Rattle.gate.proofs.sides.limit_second.Goals as goal

pub returns-then-over_limit : goal.returns-then-over_limit
returns-then-over_limit c =
    let b = c.bootstrap_side-sides.ensures in record {
      is = left_is c.args.sides b ∙ second-over _ _ (sym (c.over_limit.ensures _) ∙ c.if-over_limit.true);
      steps = left_steps c.requires b;
    }

pub returns-else-over_limit : goal.returns-else-over_limit
returns-else-over_limit c = record { is = second_not _ _ (sym (c.over_limit.ensures _) ∙ c.if-over_limit.false); steps = steps_none c.requires }
