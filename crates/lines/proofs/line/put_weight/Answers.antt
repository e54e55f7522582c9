use Rattle.lines.specs.Put.{put_unwritten, put_written, blank-room, weight-room}
use Rattle.lines.proofs.line.put_weight.Goals as goal

pub returns-else-weight-ne1 : goal.returns-else-weight-ne1
returns-else-weight-ne1 c = put_unwritten c.if-weight-ne1.false

pub put-requires : goal.put-requires
put-requires c = blank-room c.if-weight-ne1.true c.requires

pub put_number-requires : goal.put_number-requires
put_number-requires c =
    weight-room c.if-weight-ne1.true c.requires c.put.ensures

pub returns-then-weight-ne1 : goal.returns-then-weight-ne1
returns-then-weight-ne1 c = put_written c.if-weight-ne1.true c.put.ensures c.put_number.ensures
