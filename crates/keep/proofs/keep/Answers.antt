use Rattle.std.proofs.Common.{refl, arith, ap, sym, rules}
use Rattle.gates.specs.Wired.{state_of}
use Rattle.lines.specs.Put.{put_both, put_text, room, room_text, shorter}
use Rattle.retuning.specs.Kept.{two_bytes, kept_bytes, state_bytes}
use Rattle.keep.specs.Lengths.{kept-long, kept_room}
use Rattle.keep.specs.Whole.{over_put}
use Rattle.keep.proofs.keep.Goals as goal

pub put_header-requires-clause-room : goal.put_header-requires-clause-room
unfolding kept_bytes
put_header-requires-clause-room c =
    shorter _ (kept_room c.args.settings c.args.inputs.now c.args.gates.now c.args.outputs.now c.args.store.now c.args.wires.now c.requires.small c.requires.few)

pub put_two-requires-clause-room : goal.put_two-requires-clause-room
unfolding kept_bytes state_bytes state_of
put_two-requires-clause-room c =
    let w = kept_room c.args.settings c.args.inputs.now c.args.gates.now c.args.outputs.now c.args.store.now c.args.wires.now c.requires.small c.requires.few in
    room_text (ap two_bytes (sym c.len.ensures.0)) (shorter _ (shorter _ (room c.put_header.ensures w)))

pub put_nodes-requires : goal.put_nodes-requires
unfolding kept_bytes state_bytes state_of
put_nodes-requires c =
    let w = kept_room c.args.settings c.args.inputs.now c.args.gates.now c.args.outputs.now c.args.store.now c.args.wires.now c.requires.small c.requires.few in
    room (put_text (ap two_bytes (sym c.len.ensures.0)) c.put_two.ensures) (shorter _ (room c.put_header.ensures w))

pub put_cones-requires : goal.put_cones-requires
unfolding kept_bytes state_bytes state_of
put_cones-requires c =
    let w = kept_room c.args.settings c.args.inputs.now c.args.gates.now c.args.outputs.now c.args.store.now c.args.wires.now c.requires.small c.requires.few in
    room (put_both (put_text (ap two_bytes (sym c.len.ensures.0)) c.put_two.ensures) c.put_nodes.ensures) (room c.put_header.ensures w)

pub returns : goal.returns
unfolding kept_bytes state_bytes state_of
returns c =
    let two = put_text (ap two_bytes (sym c.len.ensures.0)) c.put_two.ensures in
    let long = kept-long c.args.settings c.args.inputs.now c.args.gates.now c.args.outputs.now c.args.store.now c.args.wires.now c.requires.small c.requires.few in
    over_put refl (put_both c.put_header.ensures (put_both (put_both two c.put_nodes.ensures) c.put_cones.ensures))
    (omega (arith, c.requires.room, long)) (search rules)
