use Rattle.std.proofs.Common.{refl}
use Rattle.edition.specs.Put.{puts_hold, puts_next}
use Rattle.edition.proofs.put_tables.Goals as goal

pub invariant_of-network : goal.invariant_of-network
invariant_of-network c = record { holds = puts_hold c.loop-table.invariant c.in-Some.table _ c.in-Some.ensures.steps c.put_boot.new.store c.put_boot.ensures }

pub loop-table-preserved : goal.loop-table-preserved
loop-table-preserved c = puts_next c.loop-table.invariant c.in-Some.table _ c.in-Some.ensures.steps c.put_boot.ensures (record { net = refl; inputs = refl; outs = refl })
