use Rattle.network_bounds.proofs.Tables.{bits_more}
use Rattle.network_bounds.proofs.table.table_of.Goals as goal

pub loop-i-preserved : goal.loop-i-preserved
loop-i-preserved c = bits_more c.loop-i.invariant c.loop-i-test.true c.args.text.short c.saturating_sub.ensures
