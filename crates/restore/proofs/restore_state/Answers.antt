use Rattle.std.proofs.Common.{◌∙◌, sym, arith, true≢false, length-take-le}
use Rattle.restore.specs.Front.{nodes_first, cones_behind}
use Rattle.restore.specs.ReadBack.{read_wired, read_is, cones_good}
use Rattle.restore.proofs.restore_state.Goals as goal

pub slice_bounds-restore_nodes-end : goal.slice_bounds-restore_nodes-end
slice_bounds-restore_nodes-end c = sym (length-take-le 24194 c.args.bytes.now (omega (arith, c.requires.long)))

pub restore_nodes-requires-clause-bytes : goal.restore_nodes-requires-clause-bytes
restore_nodes-requires-clause-bytes c = length-take-le 24194 c.args.bytes.now (omega (arith, c.requires.long))

pub returns-then-restore_nodes-clause-sound : goal.returns-then-restore_nodes-clause-sound
returns-then-restore_nodes-clause-sound c =
    λ t.
    let nodes = c.restore_nodes.ensures.sound c.if-restore_nodes.true in
    (read_wired _ _ c.len.result c.args.count c.len.ensures.0 (c.restore_cones.ensures.sound t), nodes.0, nodes.1)

pub returns-then-restore_nodes-clause-complete : goal.returns-then-restore_nodes-clause-complete
returns-then-restore_nodes-clause-complete c =
    λ st good e.
    let few = c.requires.few in
    let nodes = c.restore_nodes.ensures.complete st.nodes good.few good.nodes (nodes_first st good few.0 few.1 _ e) in
    let cones =
    c.restore_cones.ensures.complete st.cones good.cones_many (cones_good c.restore_nodes.new.store c.restore_cones.new.wires.items st good _ c.len.ensures.0 nodes.1)
    (cones_behind st good few.0 few.1 _ e)
    in
    (cones.0, read_is _ _ st nodes.1 cones.1)

pub returns-else-restore_nodes-clause-complete : goal.returns-else-restore_nodes-clause-complete
returns-else-restore_nodes-clause-complete c =
    λ st good e.
    let few = c.requires.few in
    let nodes = c.restore_nodes.ensures.complete st.nodes good.few good.nodes (nodes_first st good few.0 few.1 _ e) in
    absurd (true≢false (sym nodes.0 ∙ c.if-restore_nodes.false))
