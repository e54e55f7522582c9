use Rattle.std.proofs.Common.{sym, ◌∙◌}
use Rattle.lines.specs.Put.{put_none, put_text, room_text}
use Rattle.nodes.specs.Store.{store_of}
use Rattle.writer.specs.Live.{no_line, its_line, ready}
use Rattle.writer.proofs.node_lines.put_live.Goals as goal

pub put_node-requires : goal.put_node-requires
put_node-requires c =
    let e = c.node.ensures in
    let h = sym c.is_some.ensures ∙ c.if-is_some.true in
    record {
      ready = rw e (ready c.args.live.now c.args.store.now c.args.i c.requires.sourced.0 c.requires.sourced.1 h);
      room = rw e (room_text (its_line c.args.live.now (store_of c.args.store.now) c.args.i h) c.requires.room);
    }

pub returns-then-is_some : goal.returns-then-is_some
returns-then-is_some c =
    let e = c.node.ensures in
    put_text (its_line c.args.live.now (store_of c.args.store.now) c.args.i (sym c.is_some.ensures ∙ c.if-is_some.true)) (rw e at c.put_node.ensures)

pub returns-else-is_some : goal.returns-else-is_some
returns-else-is_some c = put_text (no_line c.args.live.now (store_of c.args.store.now) c.args.i (sym c.is_some.ensures ∙ c.if-is_some.false)) (put_none _)
