use Rattle.std.proofs.Common.{rules}
use Rattle.restore_nodes.specs.Kinds.{kind_input, kind_sum, kind_boot, kind_none}
use Rattle.restore_nodes.proofs.read.read_node.Goals as goal

pub returns-in-0-clause-complete : goal.returns-in-0-clause-complete
returns-in-0-clause-complete c = kind_input c.args.count c.args.cell.now _ c.in-0.is (c.read_input.ensures.complete c.args.count)

pub returns-in-1-clause-complete : goal.returns-in-1-clause-complete
returns-in-1-clause-complete c = kind_sum c.args.count c.args.cell.now _ c.in-1.is c.read_sum.ensures.complete

pub returns-in-2-clause-complete : goal.returns-in-2-clause-complete
returns-in-2-clause-complete c = kind_boot c.args.count c.args.cell.now _ c.in-2.is c.read_boot.ensures.complete

pub returns-in_default-clause-complete : goal.returns-in_default-clause-complete
returns-in_default-clause-complete c = kind_none c.args.count c.args.cell.now _ (search rules) (search rules) (search rules)
