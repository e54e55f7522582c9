use Rattle.std.proofs.Common.{ap}
use Rattle.rules.specs.Writing.{limit_text}
use Rattle.lines.specs.Put.{put_text, room_text}
use Rattle.lines.proofs.line.put_norm.Goals as goal

pub put_all-requires : goal.put_all-requires
unfolding limit_text
put_all-requires c = room_text (ap limit_text c.in-Unlimited.is) c.requires

pub put_number-requires : goal.put_number-requires
unfolding limit_text
put_number-requires c = room_text (ap limit_text c.in-AtMost.is) c.requires

pub returns-in-Unlimited : goal.returns-in-Unlimited
unfolding limit_text
returns-in-Unlimited c = put_text (ap limit_text c.in-Unlimited.is) c.put_all.ensures

pub returns-in-AtMost : goal.returns-in-AtMost
unfolding limit_text
returns-in-AtMost c = put_text (ap limit_text c.in-AtMost.is) c.put_number.ensures
