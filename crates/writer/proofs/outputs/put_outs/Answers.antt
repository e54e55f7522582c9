use Rattle.lines.specs.Put.{left-all}
use Rattle.writer.specs.Outputs.{outputs_left, output_live, output-room, output-turn, outputs_done}
use Rattle.writer.proofs.outputs.put_outs.Goals as goal

pub loop-output-init : goal.loop-output-init
unfolding outputs_left
loop-output-init c = left-all _ _

pub put_output-requires : goal.put_output-requires
put_output-requires c =
    let l = c.loop-output in
    record {
      live = output_live c.args.live.now c.args.outputs.now l.output-index _ c.loop-output-test.true c.requires.all_live;
      room = output-room c.args.live.now c.args.outputs.now l.output-index _ c.loop-output-test.true l.invariant c.requires.room;
    }

pub loop-output-preserved : goal.loop-output-preserved
loop-output-preserved c =
    let l = c.loop-output in
    output-turn c.args.live.now c.args.outputs.now l.output-index _ c.loop-output-test.true l.invariant c.put_output.ensures

pub returns : goal.returns
returns c = outputs_done c.args.live.now c.args.outputs.now c.loop-output.output-index c.loop-output-test.false c.loop-output.invariant
