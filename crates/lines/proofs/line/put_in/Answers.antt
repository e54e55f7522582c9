use Rattle.lines.specs.Put.{put_both}
use Rattle.lines.specs.Lines.{in_text}
use Rattle.lines.proofs.line.put_in.Goals as goal

pub returns : goal.returns
unfolding in_text
returns c = put_both (put_both (put_both c.put_all.ensures c.put_all-2.ensures) c.put_weight.ensures) c.put_all-3.ensures
