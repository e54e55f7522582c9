use Rattle.std.proofs.Common.{sym, ◌∙◌}
use Rattle.lines.specs.Lines2.{many_text}
use Rattle.lines.specs.Put.{put_none, put_both, put_text, room, room_text, shorter}
use Rattle.writer2.specs.Stream.{open_same, open_other}
use Rattle.writer2.proofs.tables.put_opening.Goals as goal

pub returns-then-eq : goal.returns-then-eq
returns-then-eq c = put_text (open_same c.args.opened c.args.source (sym c.eq.ensures ∙ c.if-eq.true)) (put_none _)

pub put_closing-requires : goal.put_closing-requires
put_closing-requires c =
    shorter (many_text c.args.source) (room_text (open_other c.args.opened c.args.source (sym c.eq.ensures ∙ c.if-eq.false)) c.requires)

pub put_many-requires : goal.put_many-requires
put_many-requires c =
    room c.put_closing.ensures (room_text (open_other c.args.opened c.args.source (sym c.eq.ensures ∙ c.if-eq.false)) c.requires)

pub returns : goal.returns
returns c = put_text (open_other c.args.opened c.args.source (sym c.eq.ensures ∙ c.if-eq.false)) (put_both c.put_closing.ensures c.put_many.ensures)
