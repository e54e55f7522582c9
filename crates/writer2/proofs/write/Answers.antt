use Rattle.std.proofs.Common.{refl, rules, None}
use Rattle.std.specs.Prelude.{map}
use Rattle.forms.specs.Forms.{output_of}
use Rattle.rules.specs.Writing.{outputs_text}
use Rattle.nodes.specs.Store.{store_of}
use Rattle.lines.specs.Lines2.{net2_text}
use Rattle.lines.specs.Front.{written}
use Rattle.lines.specs.Put.{put_both, room, shorter}
use Rattle.writer.specs.Outputs.{live_outputs}
use Rattle.writer2.specs.Node2.{ordered}
use Rattle.writer2.specs.Stream.{stream}
use Rattle.writer2.specs.Whole2.{text2}
use Rattle.writer2.proofs.write.Goals as goal

pub put_net-requires : goal.put_net-requires
unfolding text2 net2_text
put_net-requires c =
    shorter (stream c.args.text.now.net.p None (ordered c.args.text.now.live.now (store_of c.args.text.now.store.now) c.args.order.now)) (shorter (outputs_text (live_outputs c.args.text.now.live.now (map output_of c.args.text.now.outputs.now))) c.requires.room)

pub put_lines-requires : goal.put_lines-requires
unfolding text2 net2_text
put_lines-requires c =
    record { ordered = c.requires.ordered; room = room c.put_net.ensures (shorter (outputs_text (live_outputs c.args.text.now.live.now (map output_of c.args.text.now.outputs.now))) c.requires.room) }

pub put_outs-requires : goal.put_outs-requires
unfolding text2 net2_text
put_outs-requires c =
    record { all_live = c.args.text.now.all_live; room = room (put_both c.put_net.ensures c.put_lines.ensures) c.requires.room }

pub returns : goal.returns
unfolding text2 net2_text
returns c = written refl (put_both (put_both c.put_net.ensures c.put_lines.ensures) c.put_outs.ensures) (search rules)
