use Rattle.nodes.specs.Norm.{coef_read}
use Rattle.writer.specs.Live.{sum_ready, boot_ready}
use Rattle.writer.proofs.node_lines.put_node.Goals as goal

pub put_lin-requires-clause-small : goal.put_lin-requires-clause-small
put_lin-requires-clause-small c = let r = (sum_ready c.in-Linear.is c.requires.ready).0 in rw (coef_read _ r) r

pub put_lin-requires-clause-ready : goal.put_lin-requires-clause-ready
put_lin-requires-clause-ready c = let d = c.deref-in-Linear.ensures in rw d.0 (sum_ready c.in-Linear.is c.requires.ready).1

pub number_of-requires : goal.number_of-requires
number_of-requires c = rw c.get.ensures (boot_ready c.in-Bootstrap.is c.requires.ready).0

pub put_boot-requires-clause-by_index : goal.put_boot-requires-clause-by_index
put_boot-requires-clause-by_index c = let d = c.deref-in-Bootstrap.ensures in rw d.0 (boot_ready c.in-Bootstrap.is c.requires.ready).1
