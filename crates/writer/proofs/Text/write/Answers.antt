use Rattle.std.proofs.Common.{refl, rules}
use Rattle.std.specs.Prelude.{map}
use Rattle.forms.specs.Forms.{output_of}
use Rattle.rules.specs.Writing.{nodes_text, outputs_text}
use Rattle.lines.specs.Front.{written}
use Rattle.lines.specs.Put.{put_both, put_text, room, room_text, shorter}
use Rattle.lines.specs.Lines.{net_text}
use Rattle.writer.specs.Live.{live_nodes}
use Rattle.writer.specs.Outputs.{live_outputs}
use Rattle.writer.specs.Whole.{text_parts}
use Rattle.writer.proofs.Text.write.Goals as goal

pub put_net-requires : goal.put_net-requires
unfolding net_text
put_net-requires c =
    let t = c.args.self.now in
    shorter (nodes_text (live_nodes t.live.now t.store.now)) (shorter (outputs_text (live_outputs t.live.now (map output_of t.outputs.now))) (room_text (text_parts t) c.requires))

pub put_nodes-requires : goal.put_nodes-requires
unfolding net_text
put_nodes-requires c =
    let t = c.args.self.now in
    record {
      sourced = t.sourced;
      room = room c.put_net.ensures (shorter (outputs_text (live_outputs t.live.now (map output_of t.outputs.now))) (room_text (text_parts t) c.requires));
    }

pub put_outs-requires : goal.put_outs-requires
unfolding net_text
put_outs-requires c =
    let t = c.args.self.now in
    record { all_live = t.all_live; room = room (put_both c.put_net.ensures c.put_nodes.ensures) (room_text (text_parts t) c.requires) }

pub returns : goal.returns
unfolding net_text
returns c = written refl (put_text (text_parts c.args.self.now) (put_both (put_both c.put_net.ensures c.put_nodes.ensures) c.put_outs.ensures)) (search rules)
