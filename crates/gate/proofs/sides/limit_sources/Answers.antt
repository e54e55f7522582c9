use Rattle.std.proofs.Common.{sym, ap, ◌∙◌}
use Rattle.rules.specs.Mapper as M
use Rattle.gate.specs.Gate.{left_is, left_steps, left_ready}
use Rattle.gate.specs.GateSteps.{sources_not, sources_on, steps_none, steps_on, switched_ready}
use Rattle.gate.proofs.sides.limit_sources.Goals as goal

pub returns-then-not-over_limit : goal.returns-then-not-over_limit
returns-then-not-over_limit c = record { is = sources_not _ _ (sym (c.over_limit.ensures _) ∙ c.if-not-over_limit.true); steps = steps_none c.requires }

pub limit_second-requires : goal.limit_second-requires
limit_second-requires c =
    let v = c.switch_inputs.ensures in switched_ready _ _ v.is v.places _ (left_ready c.requires c.bootstrap_side-sides.ensures)

pub returns : goal.returns
returns c =
    let b = c.bootstrap_side-sides.ensures in
    let v = c.switch_inputs.ensures in
    let next = c.limit_second.ensures in record {
      is = next.is ∙ ap (M.limit_second _) (v.is _) ∙ sources_on _ _ _ (sym (c.over_limit.ensures _) ∙ c.if-not-over_limit.false) (left_is c.args.sides b);
      steps = steps_on _ _ v.is v.places (left_steps c.requires b) next.steps;
    }
