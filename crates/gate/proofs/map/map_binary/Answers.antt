use Rattle.std.proofs.Common.{◌∙◌}
use Rattle.rules.specs.Mapper as M
use Rattle.gate.specs.Gate.{room_of_most}
use Rattle.gate.specs.GateSteps.{first_ready, step_goes, step_none, binary_is, grows, maps_wider}
use Rattle.gate.proofs.map.map_binary.Goals as goal

-- `gate::map::map_binary` meets its contract.
pub limit_sources-sides-requires : goal.limit_sources-sides-requires
limit_sources-sides-requires c = let p = c.requires in first_ready _ _ _ _ _ c.sides_of-sides.ensures.same p.0 p.1 p.2 p.3

pub returns-in-Some : goal.returns-in-Some
returns-in-Some c =
    let w = c.sides_of-sides in
    let q = c.limit_sources-sides.ensures in
    record {
      is = c.concluded.ensures.is _ ∙ step_goes c.args.s.settings (M.second_attempt c.args.s.settings) _ _ q.is c.attempt_sides.result c.attempt_sides.ensures.is _ c.in-Some.is ∙ binary_is c.args.s.settings _ _ _ _ _ w.ensures.is;
      stands = c.concluded.ensures.stands _ _ _ _ (grows _ (room_of_most w.result) q.steps) q.steps.ready.both c.in-Some.ensures.stands;
    }

pub returns-in-None : goal.returns-in-None
returns-in-None c =
    let w = c.sides_of-sides in
    let q = c.limit_sources-sides.ensures in
    record {
      is = c.second_attempt.ensures.is ∙ step_none c.args.s.settings (M.second_attempt c.args.s.settings) _ _ q.is c.attempt_sides.result c.attempt_sides.ensures.is c.in-None.is ∙ binary_is c.args.s.settings _ _ _ _ _ w.ensures.is;
      stands = maps_wider _ (room_of_most w.result) q.steps _ _ c.second_attempt.ensures.stands;
    }
