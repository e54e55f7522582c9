use Rattle.std.proofs.Common.{rules, pos}
use Rattle.laws.specs.Made.{built}
use Rattle.restore_cones.specs.Cell.{coefficient_at}
use Rattle.restore_cones.proofs.sources.read_coefficients.Goals as goal

pub returns : goal.returns
returns c = built (coefficient_at c.args.cell.now c.args.start) 11 (λ i y q l k. search rules) c.from_fn.result (pos 0) c.from_fn.ensures.items
