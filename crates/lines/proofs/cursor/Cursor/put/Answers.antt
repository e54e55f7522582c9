use Rattle.lines.specs.Put.{put_stored}
use Rattle.lines.proofs.cursor.Cursor.put.Goals as goal

pub returns-then-at-self : goal.returns-then-at-self
returns-then-at-self c = put_stored c.args.b c.args.self.now c.if-at-self.true
