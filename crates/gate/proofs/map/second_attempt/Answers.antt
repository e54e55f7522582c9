use Rattle.std.proofs.Common.{le_refl, ◌∙◌}
use Rattle.rules.specs.Mapper as M
use Rattle.gate.specs.Gate.{left_is, left_ready, left_steps}
use Rattle.gate.specs.GateSteps.{step_goes, step_none, second_is, grows, maps_wider}
use Rattle.gate.proofs.map.second_attempt.Goals as goal

pub returns-in-Some : goal.returns-in-Some
returns-in-Some c =
    let b = c.bootstrap_side-sides.ensures in
    record {
      is = c.concluded.ensures.is _ ∙ step_goes c.args.s.settings (M.third_attempt c.args.s.settings) _ _ (left_is c.args.sides b) c.attempt_sides.result c.attempt_sides.ensures.is _ c.in-Some.is ∙ second_is _ _;
      stands = c.concluded.ensures.stands _ _ _ _ (grows _ (le_refl _) (left_steps c.requires b)) (left_ready c.requires b).both c.in-Some.ensures.stands;
    }

pub returns-in-None : goal.returns-in-None
returns-in-None c =
    let b = c.bootstrap_side-sides.ensures in
    record {
      is = c.third_attempt.ensures.is ∙ step_none c.args.s.settings (M.third_attempt c.args.s.settings) _ _ (left_is c.args.sides b) c.attempt_sides.result c.attempt_sides.ensures.is c.in-None.is ∙ second_is _ _;
      stands = maps_wider _ (le_refl _) (left_steps c.requires b) _ _ c.third_attempt.ensures.stands;
    }
