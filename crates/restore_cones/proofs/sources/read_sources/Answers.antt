use Rattle.std.proofs.Common.{rules}
use Rattle.laws.specs.Made.{built}
use Rattle.restore_cones.specs.Cell.{source_at}
use Rattle.restore_cones.proofs.sources.read_sources.Goals as goal

pub returns : goal.returns
returns c = built (source_at c.args.cell.now) 11 (λ i y q l k. search rules) c.from_fn.result 0 c.from_fn.ensures.items
