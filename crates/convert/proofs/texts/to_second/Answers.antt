use Rattle.std.proofs.Common.{rules, ◌∙◌}
use Rattle.nodes.specs.Store.{store_few}
use Rattle.convert.specs.Moved.{outputs-live}
use Rattle.convert.specs.Both.{order_fits, renames, second-ordered, second-sourced, second-room, second_same}
use Rattle.convert.proofs.texts.to_second.Goals as goal

pub number-live-requires : goal.number-live-requires
number-live-requires c =
    let d = c.deref.ensures in
    order_fits c.args.w.now.store c.deref.result.now (d.0 ∙ c.arrange-order.ensures)

pub invariant_of-text : goal.invariant_of-text
invariant_of-text c =
    let w = c.args.w.now in
    let h = c.requires.net in
    let e = c.deref.ensures.0 ∙ c.arrange-order.ensures in
    let d = c.deref-2.ensures in
    record {
      sourced = second-sourced c.args.net w e c.number-live.ensures h c.requires.turn;
      all_live = rw d.0 (outputs-live (renames c.args.net w e c.number-live.ensures h c.requires.turn) (store_few w.store) w.outputs.items w.holds.outputs);
    }

pub answer-requires : goal.answer-requires
answer-requires c =
    let w = c.args.w.now in
    let h = c.requires.net in
    let e = c.deref.ensures.0 ∙ c.arrange-order.ensures in
    let a = second-ordered c.args.net w e c.number-live.ensures h c.requires.turn in
    let k = second-room c.args.net w e c.number-live.ensures h c.requires.turn c.deref-2.ensures.0 c.requires.limit in
    search rules

pub returns : goal.returns
returns c =
    let e = second_same c.args.net c.args.w.now (c.deref.ensures.0 ∙ c.arrange-order.ensures) c.number-live.ensures c.requires.net c.requires.turn c.deref-2.ensures.0 in
    search rules
