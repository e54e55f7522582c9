use Rattle.std.proofs.Common.{ap}
use Rattle.rules.specs.Writing.{wire_text}
use Rattle.lines.specs.Put.{put_text, room_text}
use Rattle.lines.proofs.line.put_wire.Goals as goal

pub put_numbered-requires : goal.put_numbered-requires
unfolding wire_text
put_numbered-requires c = room_text (ap wire_text c.in-Const.is) c.requires

pub put_numbered-requires-in-Node : goal.put_numbered-requires-in-Node
unfolding wire_text
put_numbered-requires-in-Node c = room_text (ap wire_text c.in-Node.is) c.requires

pub returns-in-Const : goal.returns-in-Const
unfolding wire_text
returns-in-Const c = put_text (ap wire_text c.in-Const.is) c.put_numbered.ensures

pub returns-in-Node : goal.returns-in-Node
unfolding wire_text
returns-in-Node c = put_text (ap wire_text c.in-Node.is) c.put_numbered-in-Node.ensures
