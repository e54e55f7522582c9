use Rattle.circuit_run.specs.Run.{outputs_next}
use Rattle.circuit_run.proofs.run.put_outputs.Goals as goal

pub loop-i-preserved : goal.loop-i-preserved
loop-i-preserved c =
    outputs_next c.args.values.now c.args.outputs.now c.args.out.now _ _ c.loop-i.invariant c.requires _ _ c.wire_bit.ensures c.loop-i-test.true
