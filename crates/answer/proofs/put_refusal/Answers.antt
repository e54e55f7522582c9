use Rattle.std.proofs.Common.{refl, rules}
use Rattle.rules.specs.Form.{bytes}
use Rattle.rules.specs.Service.{refusal_text}
use Rattle.rules.specs.Writing.{digits}
use Rattle.lines.specs.Front.{written}
use Rattle.lines.specs.Put.{put_both, room, shorter}
use Rattle.answer.specs.Front.{refusal-room}
use Rattle.answer.proofs.put_refusal.Goals as goal

pub put_number-requires : goal.put_number-requires
unfolding refusal_text
put_number-requires c =
    let e = c.number-number.ensures in
    rw e (room c.put_all.ensures (shorter (bytes " ") (shorter (digits c.args.r.line) (shorter (bytes ")\n") (refusal-room _ _ (rw e at c.number-number.type_inv) (search rules))))))

pub put-requires : goal.put-requires
unfolding refusal_text
put-requires c =
    let e = c.number-number.ensures in
    room (put_both c.put_all.ensures (rw e at c.put_number.ensures)) (shorter (digits c.args.r.line) (shorter (bytes ")\n") (refusal-room _ _ (rw e at c.number-number.type_inv) (search rules))))

pub put_number-requires-2 : goal.put_number-requires-2
unfolding refusal_text
put_number-requires-2 c =
    let e = c.number-number.ensures in
    room (put_both (put_both c.put_all.ensures (rw e at c.put_number.ensures)) c.put.ensures) (shorter (bytes ")\n") (refusal-room _ _ (rw e at c.number-number.type_inv) (search rules)))

pub put_all-requires-2 : goal.put_all-requires-2
unfolding refusal_text
put_all-requires-2 c =
    let e = c.number-number.ensures in
    room (put_both (put_both (put_both c.put_all.ensures (rw e at c.put_number.ensures)) c.put.ensures) c.put_number-2.ensures) (refusal-room _ _ (rw e at c.number-number.type_inv) (search rules))

pub returns : goal.returns
unfolding refusal_text
returns c =
    let e = c.number-number.ensures in
    written refl (put_both (put_both (put_both (put_both c.put_all.ensures (rw e at c.put_number.ensures)) c.put.ensures) c.put_number-2.ensures) c.put_all-2.ensures) (search rules)
