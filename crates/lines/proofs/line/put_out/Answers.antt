use Rattle.lines.specs.Put.{put_both}
use Rattle.lines.specs.Lines.{out_text}
use Rattle.lines.proofs.line.put_out.Goals as goal

pub returns : goal.returns
unfolding out_text
returns c = (put_both (put_both (put_both (put_both c.put_all.ensures c.put_all-2.ensures) c.put.ensures) c.put_wire.ensures) c.put_all-3.ensures)
