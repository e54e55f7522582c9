use Rattle.lines.specs.Put.{put_both}
use Rattle.retuning.specs.Kept.{node_bytes}
use Rattle.keep.proofs.node_cells.put_boot.Goals as goal

pub returns : goal.returns
unfolding node_bytes
returns c = put_both c.put.ensures (put_both c.put_two.ensures c.put_counted.ensures)
