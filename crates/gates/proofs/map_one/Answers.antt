use Rattle.std.proofs.Common.{◌≡◌, refl, ◌∙◌, ◌∷◌, [], ◌++◌, ap, length, Err, arith, rules}
use Rattle.rules.specs.Mapper.{is_forced}
use Rattle.gates.specs.Gates.{gate_refused, gate_done, gate_wired, settled_long}
use Rattle.gates.proofs.map_one.Goals as goal

pub push-requires : goal.push-requires
push-requires c =
    let e : length c.update_wires.new.wires.items ≡ length c.args.wires.now.items = ap length c.update_wires.ensures ∙ settled_long _ _ _ _ in
    (omega arith, omega (arith, e, c.requires.1.0))

pub returns-in_err-mapped-clause-is : goal.returns-in_err-mapped-clause-is
returns-in_err-mapped-clause-is c =
    let e : c.from_residual.result ≡ Err c.in_err-mapped.field-0.0 = search rules in
    gate_refused _ _ _ _ _ _ refl _ _ c.map_gate.ensures.is _ c.in_err-mapped.was _ e _ _

pub returns-clause-is : goal.returns-clause-is
returns-clause-is c =
    gate_done _ _ _ _ _ _ (ap (is_forced _ _) c.len.ensures.value) _ _ c.map_gate.ensures.is _ c.in_ok-mapped.was _ _ c.forced-own.ensures.is _
    (c.push.ensures.items ∙ ap (λ l. l ++ (c.forced-own.result ∷ [])) c.update_wires.ensures)

pub returns-clause-works : goal.returns-clause-works
returns-clause-works c =
    gate_wired _ _ _ _ _ _ _ _ _ c.requires.1.1.0 c.in_ok-mapped.ensures.stands c.forced-own.ensures.stands
    (c.push.ensures.items ∙ ap (λ l. l ++ (c.forced-own.result ∷ [])) c.update_wires.ensures)
