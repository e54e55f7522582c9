use Rattle.std.proofs.Common.{◌≡◌, refl, sym, ◌∙◌, ap, map, Err, arith, rules, get_or, []}
use Rattle.std.specs.Prelude.{is_ok}
use Rattle.rules.specs.declared.Wire.TheVariants.{Const}
use Rattle.rules.specs.Mapper.{at_line}
use Rattle.forms.specs.Forms.{output_of}
use Rattle.circuit.specs.declared.Function.TheVariants.{Unary}
use Rattle.circuit.specs.declared.Gate.{Gate}
use Rattle.gates.specs.Wired.{state_of}
use Rattle.gates.specs.Gates.{gate_next, state_read}
use Rattle.gates.specs.Loop.{gates_start, begun_start, lined, turn_refused, turn-next, gates_done, begun_done, next_asks, worked_as, worked_next, worked_start}
use Rattle.gates.proofs.map_gates.Goals as goal
use Rattle.gates.proofs.map_gates.Goals.{After-map_err}

-- what came of the gate whose turn it was
module _ (c : After-map_err) where
  -- past the gates stands any one
  abbrev gate : Gate
  gate = get_or c.args.gates.now c.loop-gate.gate-index (record { line = 0; function = Unary (Const 0) [] })

  turned : state_read c.map_one-next.new.store c.map_one-next.new.wires.items c.map_err.result
      ≡ at_line gate.line (gate_next c.args.s.settings (map output_of c.args.outputs.now) (state_of c.loop-gate.store c.loop-gate.wires.items) gate.function)
  turned = lined gate.line _ (λ e d k. search rules) c.map_one-next.result _ c.map_err.ensures.cases _ _ ∙ search c.map_one-next.ensures.is

pub loop-gate-init : goal.loop-gate-init
loop-gate-init c = record { worked = worked_start _ _ _ c.requires.wired; same = refl; count = omega arith; all = omega arith }

pub map_one-next-requires : goal.map_one-next-requires
map_one-next-requires c = next_asks _ _ c.requires.good _ _ c.loop-gate-test.true _ _ _ c.requires.room c.loop-gate.invariant.worked

pub returns-in_err-map_err : goal.returns-in_err-map_err
returns-in_err-map_err c =
    let o = c.loop-gate in
    let e : c.from_residual.result ≡ Err c.in_err-map_err.field-0.0 = search rules in
    let t = turn_refused _ _ _ o.gate-index _ c.loop-gate-test.true _ _ _ _ _ (turned (goal.at.returns-in_err-map_err c).After-map_err) _ c.in_err-map_err.was _ e in
    record {
      is = t.0 ∙ o.invariant.same ∙ gates_start _ _ _ _ _;
      begun = omega (
        arith,
        o.invariant.count,
        o.invariant.all,
        t.1,
        begun_start c.args.s.settings (map output_of c.args.outputs.now) c.args.gates.now c.args.store.now c.args.wires.now.items,
      );
      works = search rules;
    }

pub loop-gate-preserved : goal.loop-gate-preserved
loop-gate-preserved c =
    let o = c.loop-gate in
    let t = turn-next _ _ _ o.gate-index _ c.loop-gate-test.true _ _ _ _ _ (turned (goal.at.loop-gate-preserved c).After-map_err) _ c.in_ok-map_err.was in
    record {
      worked = worked_next _ _ o.invariant.worked (worked_as _ (sym c.map_err.ensures.variant ∙ ap is_ok c.in_ok-map_err.was) c.map_one-next.ensures.works);
      same = t.0 ∙ o.invariant.same;
      count = omega (arith, o.invariant.count);
      all = omega (arith, o.invariant.all, t.1);
    }

pub returns-clause-is : goal.returns-clause-is
returns-clause-is c =
    let o = c.loop-gate in
    gates_done _ _ _ o.gate-index _ _ (omega (arith, c.loop-gate-test.false)) ∙ o.invariant.same ∙ gates_start _ _ _ _ _

pub returns-clause-begun : goal.returns-clause-begun
returns-clause-begun c =
    let o = c.loop-gate in
    omega (
      arith,
      o.invariant.count,
      o.invariant.all,
      begun_done c.args.s.settings (map output_of c.args.outputs.now) c.args.gates.now o.gate-index o.store o.wires.items c.loop-gate-test.false,
      begun_start c.args.s.settings (map output_of c.args.outputs.now) c.args.gates.now c.args.store.now c.args.wires.now.items,
    )
