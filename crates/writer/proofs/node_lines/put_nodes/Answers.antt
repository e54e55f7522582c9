use Rattle.std.proofs.Common.{arith}
use Rattle.lines.specs.Put.{left-all}
use Rattle.nodes.specs.Store.{store_of}
use Rattle.writer.specs.Live.{live_nodes, lines_left, line-room, line-turn, lines_done}
use Rattle.writer.proofs.node_lines.put_nodes.Goals as goal

pub loop-i-init : goal.loop-i-init
unfolding lines_left live_nodes
loop-i-init c = left-all _ _

pub put_live-requires : goal.put_live-requires
put_live-requires c =
    let o = c.loop-i in
    record { sourced = (c.requires.sourced, omega arith); room = line-room c.args.live.now (store_of c.args.store.now) o.i o.invariant (omega arith) c.requires.room }

pub loop-i-preserved : goal.loop-i-preserved
loop-i-preserved c = line-turn c.args.live.now (store_of c.args.store.now) c.loop-i.i c.loop-i.invariant (omega arith) c.put_live.ensures

pub returns : goal.returns
returns c = lines_done c.args.live.now (store_of c.args.store.now) c.loop-i.i c.loop-i.invariant (omega arith)
