use Rattle.lines.specs.Put.{put_both}
use Rattle.lines.specs.Lines2.{table_text}
use Rattle.lines.proofs.line2.put_table.Goals as goal

pub returns : goal.returns
unfolding table_text
returns c = put_both (put_both (put_both (put_both c.put_all.ensures c.put_bits.ensures) c.put.ensures) c.put_number.ensures) c.put-2.ensures
