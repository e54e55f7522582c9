use Rattle.laws.specs.Integer.{read_back}
use Rattle.network_run.specs.Write.{outputs_next}
use Rattle.network_run.proofs.write.write_values.Goals as goal

pub loop-i-preserved : goal.loop-i-preserved
loop-i-preserved c =
    simp (read_back c.wire_value.result c.wire_value.type_inv)
    (outputs_next c.args.node_values.now c.args.outputs.now c.args.values.now _ _ c.loop-i.invariant c.requires _ _ c.wire_value.ensures c.loop-i-test.true)
