use Rattle.std.proofs.Common.{to_z-of_z}
use Rattle.rules.specs.Writing.{node_text}
use Rattle.lines.specs.Put.{put_both, put_as}
use Rattle.writer.specs.Live.{new_node}
use Rattle.writer.proofs.node_lines.put_lin.Goals as goal

pub returns : goal.returns
unfolding node_text new_node
returns c =
    put_both (put_both (put_both c.put_all.ensures (put_as (to_z-of_z c.ranges.constant) c.put_signed.ensures)) c.put_terms.ensures) c.put_all-2.ensures
