use Rattle.nodes.specs.Norm.{coef_read}
use Rattle.keep.specs.Nodes.{sum_fine, boot_fine}
use Rattle.keep.proofs.node_cells.put_node_bytes.Goals as goal

pub put_sum-requires-clause-small : goal.put_sum-requires-clause-small
put_sum-requires-clause-small c = let r = (sum_fine c.in-Linear.is c.requires.fine).0 in rw (coef_read _ r) r

pub put_sum-requires-clause-fine : goal.put_sum-requires-clause-fine
put_sum-requires-clause-fine c = let d = c.deref-in-Linear.ensures in rw d.0 (sum_fine c.in-Linear.is c.requires.fine).1

pub put_boot-requires-clause-small : goal.put_boot-requires-clause-small
put_boot-requires-clause-small c = rw c.get.ensures (boot_fine c.in-Bootstrap.is c.requires.fine)
