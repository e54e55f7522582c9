use Rattle.std.proofs.Common.{arith, refl}
use Rattle.rules.specs.Network.{node_at}
use Rattle.nodes.specs.Store.{store_of, node_within}
use Rattle.retuning.specs.Kept.{node_cell}
use Rattle.cells.specs.Pieces.{pieces_start, piece_room, piece_turn, pieces_done, cell_room, pad_begun, pad_room, padded_put}
use Rattle.keep.proofs.node_cells.put_nodes.Goals as goal

pub loop-i-init : goal.loop-i-init
loop-i-init c = pieces_start node_cell _ _ refl

pub put_node-requires : goal.put_node-requires
unfolding node_at
put_node-requires c =
    let l = c.loop-i in
    let e = c.node.ensures in
    record {
      fine = rw e (node_within c.args.store.now l.i (omega arith));
      room = rw e (piece_room node_cell (store_of c.args.store.now) l.i l.invariant _ (omega arith) (cell_room 24192 c.requires));
    }

pub loop-i-preserved : goal.loop-i-preserved
unfolding node_at
loop-i-preserved c =
    let l = c.loop-i in
    let e = c.node.ensures in
    piece_turn node_cell (store_of c.args.store.now) l.i l.invariant _ (omega arith) (rw e at c.put_node.ensures)

pub pad-requires : goal.pad-requires
pad-requires c =
    let p = pieces_done node_cell (store_of c.args.store.now) c.loop-i.i c.loop-i.invariant (omega arith) in
    record { begun = pad_begun 24192 p; room = pad_room 24192 p c.requires }

pub returns : goal.returns
returns c = padded_put 24192 (pieces_done node_cell (store_of c.args.store.now) c.loop-i.i c.loop-i.invariant (omega arith)) c.pad.ensures
