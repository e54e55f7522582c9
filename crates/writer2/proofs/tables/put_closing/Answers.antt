use Rattle.std.proofs.Common.{sym, ◌∙◌}
use Rattle.lines.specs.Put.{put_none, put_text, room_text}
use Rattle.writer2.specs.Stream.{closing_none, closing_some}
use Rattle.writer2.proofs.tables.put_closing.Goals as goal

pub put_all-requires : goal.put_all-requires
put_all-requires c = room_text (closing_some c.args.opened (sym c.is_some.ensures ∙ c.if-is_some.true)) c.requires

pub returns-then-is_some : goal.returns-then-is_some
returns-then-is_some c = put_text (closing_some c.args.opened (sym c.is_some.ensures ∙ c.if-is_some.true)) c.put_all.ensures

pub returns-else-is_some : goal.returns-else-is_some
returns-else-is_some c = put_text (closing_none c.args.opened (sym c.is_some.ensures ∙ c.if-is_some.false)) (put_none _)
