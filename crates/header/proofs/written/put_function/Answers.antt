use Rattle.lines.specs.Put.{put_text, room_text}
use Rattle.header.specs.Header.{unary_bytes, binary_bytes}
use Rattle.header.proofs.written.put_function.Goals as goal

pub put_unary-requires-clause-room : goal.put_unary-requires-clause-room
put_unary-requires-clause-room c = room_text (unary_bytes c.in-Unary.is) c.requires.room

pub put_binary-requires-clause-room : goal.put_binary-requires-clause-room
put_binary-requires-clause-room c = room_text (binary_bytes c.in-Binary.is) c.requires.room

pub returns-in-Unary : goal.returns-in-Unary
returns-in-Unary c = put_text (unary_bytes c.in-Unary.is) c.put_unary.ensures

pub returns-in-Binary : goal.returns-in-Binary
returns-in-Binary c = put_text (binary_bytes c.in-Binary.is) c.put_binary.ensures
