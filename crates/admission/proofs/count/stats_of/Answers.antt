use Rattle.std.proofs.Common.{rules}
use Rattle.admission.specs.Count.{records, counting_start, counting_next}
use Rattle.admission.proofs.count.stats_of.Goals as goal

pub loop-i-init : goal.loop-i-init
loop-i-init c = counting_start c.args.store.now c.args.outputs _ (search (records, rules))

pub loop-i-preserved : goal.loop-i-preserved
loop-i-preserved c =
    counting_next c.loop-i.invariant (search rules) c.count_node.ensures.stats c.count_node.ensures.taken
