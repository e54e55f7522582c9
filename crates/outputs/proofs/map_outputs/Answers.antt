use Rattle.std.proofs.Common.{refl, ap, ◌∙◌, length, arith}
use Rattle.rules.specs.Mapper.{output_signal}
use Rattle.outputs.specs.OutputsWalk.{output_in, outputs_from, outputs_start, outputs-step, outputs_done, way_start, way_next}
use Rattle.outputs.proofs.map_outputs.Goals as goal

pub loop-output-init : goal.loop-output-init
loop-output-init c = record { way = way_start _ _ _ _ _ c.new-outputs.ensures c.requires.wired.1; same = ap (outputs_from _ _ _ _ _) c.new-outputs.ensures }

pub wire_cone-requires : goal.wire_cone-requires
wire_cone-requires c = output_in c.loop-output.invariant.way.wired _ _ c.deref-output-items.ensures.0 _ _ c.loop-output-test.true c.requires.wires

pub output_signal-wire-requires : goal.output_signal-wire-requires
output_signal-wire-requires c =
    let w = c.loop-output.invariant.way in (
      omega (arith, c.requires.room.0, w.outs.grown.most, c.loop-output-test.true, ap length c.deref-output-items.ensures.0),
      c.wire_cone.ensures.stands _ _ w.wired,
    )

pub loop-output-preserved : goal.loop-output-preserved
loop-output-preserved c =
    let o = c.loop-output in
    let f = c.output_signal-wire.ensures in
    record {
      way = way_next o.invariant.way _ _ f.finishes _ refl _ c.push.ensures.items;
      same = ap (outputs_from _ _ _ _ _) c.push.ensures.items
          ∙ outputs-step _ _ _ _ c.deref-output-items.ensures.0 o.output-index _ c.loop-output-test.true _ _ _ _ (f.is ∙ ap (output_signal _ _) c.wire_cone.ensures.is) _ refl
          ∙ o.invariant.same;
    }

pub returns-clause-is : goal.returns-clause-is
returns-clause-is c =
    let o = c.loop-output in
    outputs_done _ _ _ _ c.deref-output-items.ensures.0 o.output-index _ _ c.loop-output-test.false ∙ o.invariant.same ∙ outputs_start _ _ _ _
