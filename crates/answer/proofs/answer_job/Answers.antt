use Rattle.std.proofs.Common.{sym, ◌∙◌, arith, drop, length-drop, length-take-le}
use Rattle.answer.specs.Answer.{written_ends, front-written, front_refused}
use Rattle.answer.proofs.answer_job.Goals as goal

pub slice_bounds-map-end-2 : goal.slice_bounds-map-end-2
slice_bounds-map-end-2 c = sym (length-take-le 65536 c.args.out.now (omega (arith, c.requires)))

pub put_end-requires : goal.put_end-requires
put_end-requires c =
    let size = length-take-le 65536 c.args.out.now (omega (arith, c.requires)) in
    written_ends c.args.job.now _ _ c.map.result size c.map.ensures c.in-Ok.is (c.map.auto.out ∙ size) (drop 65536 c.args.out.now)
    (omega (arith, c.requires, length-drop 65536 c.args.out.now))

pub returns-in-Ok : goal.returns-in-Ok
returns-in-Ok c =
    let size = length-take-le 65536 c.args.out.now (omega (arith, c.requires)) in
    front-written c.args.job.now _ _ c.map.result size c.map.ensures c.in-Ok.is (c.map.auto.out ∙ size) (drop 65536 c.args.out.now) c.put_end.ensures

pub returns-in-Err : goal.returns-in-Err
returns-in-Err c =
    let size = length-take-le 65536 c.args.out.now (omega (arith, c.requires)) in
    front_refused c.args.job.now _ _ c.map.result size c.map.ensures c.in-Err.is c.refuse.ensures
