use Rattle.std.proofs.Common.{◌≡◌, refl, ap, le_refl, ◌∙◌, Option, None, Some, Err, rules}
use Rattle.std.specs.Option.{ok_or}
use Rattle.rules.specs.declared.Reason.{Reason}
use Rattle.rules.specs.declared.Reason.TheVariants.{NoComposition}
use Rattle.cone.specs.declared.Cone.{Cone}
use Rattle.gate.specs.Gate.{right_is, right_ready, right_steps}
use Rattle.gate.specs.View.{mapped_of}
use Rattle.gate.specs.GateSteps.{step_goes, step_none, third_is, grows, nine}
use Rattle.gate.proofs.map.third_attempt.Goals as goal

-- `gate::map::third_attempt` meets its contract.
none_of : (o : Option Cone) (r : Reason) → Err r ≡ ok_or o NoComposition → (o ≡ None) × (r ≡ NoComposition)
none_of None r e = (refl, cc)
none_of (Some c) r e = absurd cc

pub returns-in_err-cone-clause-is : goal.returns-in_err-cone-clause-is
unfolding nine mapped_of
returns-in_err-cone-clause-is c =
    let b = c.bootstrap_side-sides in
    let e : c.from_residual.result ≡ Err c.in_err-cone.field-0.0 = search rules in
    let none = none_of c.attempt_sides.result c.in_err-cone.field-0.0 c.in_err-cone.ensures.value in
    ap (mapped_of b.new.store) (e ∙ ap Err none.1) ∙ step_none c.args.s.settings nine _ _ (right_is c.args.sides b.ensures) c.attempt_sides.result c.attempt_sides.ensures.is none.0 ∙ third_is _ _

pub returns : goal.returns
returns c =
    let b = c.bootstrap_side-sides.ensures in
    let some = c.in_ok-cone.ensures.ok_part in
    record {
      is = c.concluded.ensures.is _ ∙ step_goes c.args.s.settings nine _ _ (right_is c.args.sides b) c.attempt_sides.result c.attempt_sides.ensures.is _ some ∙ third_is _ _;
      stands = c.concluded.ensures.stands _ _ _ _ (grows _ (le_refl _) (right_steps c.requires b)) (right_ready c.requires b).both (rw some at c.attempt_sides.ensures.stands);
    }
