use Rattle.std.proofs.Common.{rules}
use Rattle.nodes.specs.Store.{store_few}
use Rattle.convert.specs.Moved.{counted_stays, outputs-live, stay_sourced}
use Rattle.convert.specs.Both.{plain-room, plain_same}
use Rattle.convert.proofs.texts.to_plain.Goals as goal

pub invariant_of-text : goal.invariant_of-text
invariant_of-text c =
    let d = c.deref.ensures in
    let w = c.args.w.now in
    let r = counted_stays (store_few w.store) c.own_numbers-live.ensures in
    record { sourced = stay_sourced _ w.store r; all_live = rw d.0 (outputs-live r (store_few w.store) w.outputs.items w.holds.outputs) }

pub answer-requires : goal.answer-requires
answer-requires c =
    let w = c.args.w.now in
    let k = plain-room c.args.net w (counted_stays (store_few w.store) c.own_numbers-live.ensures) c.requires.net c.deref.ensures.0 c.requires.limit in
    search rules

pub returns : goal.returns
returns c =
    let w = c.args.w.now in
    let e = plain_same c.args.net w (counted_stays (store_few w.store) c.own_numbers-live.ensures) c.requires.net c.deref.ensures.0 in
    search rules
