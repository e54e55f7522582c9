use Rattle.std.proofs.Common.{refl}
use Rattle.lines.specs.Put.{left-all}
use Rattle.nodes.specs.Store.{store_of}
use Rattle.writer2.specs.Node2.{lines_left, known_at, piece-room, piece-turn, closing-room, lines_done}
use Rattle.writer2.proofs.many.put_lines.Goals as goal

pub loop-i-init : goal.loop-i-init
unfolding lines_left
loop-i-init c = left-all _ _

pub put_piece-requires : goal.put_piece-requires
put_piece-requires c =
    let o = c.loop-i in
    let e = c.node-node.ensures in
    record {
      known = rw e (known_at c.requires.ordered c.args.text.now.sourced _ (c.requires.ordered.below o.i-index c.loop-i-test.true));
      room = rw e (piece-room c.args.text.now.net.p c.args.text.now.live.now (store_of c.args.text.now.store.now) c.args.order.now o.i-index o.opened o.invariant c.loop-i-test.true refl c.requires.room);
    }

pub open_behind-opened-requires : goal.open_behind-opened-requires
open_behind-opened-requires c =
    let e = c.node-node.ensures in
    rw e (known_at c.requires.ordered c.args.text.now.sourced _ (c.requires.ordered.below c.loop-i.i-index c.loop-i-test.true)).ready

pub loop-i-preserved : goal.loop-i-preserved
loop-i-preserved c =
    let o = c.loop-i in
    let e = c.node-node.ensures in
    piece-turn c.args.text.now.net.p c.args.text.now.live.now (store_of c.args.text.now.store.now) c.args.order.now o.i-index o.opened o.invariant c.loop-i-test.true
    (rw e at c.open_behind-opened.ensures) (rw e at c.put_piece.ensures)

pub put_closing-requires : goal.put_closing-requires
put_closing-requires c =
    let o = c.loop-i in
    closing-room c.args.text.now.net.p c.args.text.now.live.now (store_of c.args.text.now.store.now) c.args.order.now o.i-index o.opened o.invariant c.loop-i-test.false c.requires.room

pub returns : goal.returns
returns c =
    let o = c.loop-i in
    lines_done c.args.text.now.net.p c.args.text.now.live.now (store_of c.args.text.now.store.now) c.args.order.now o.i-index o.opened o.invariant c.loop-i-test.false c.put_closing.ensures
