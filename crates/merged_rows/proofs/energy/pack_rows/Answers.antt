use Rattle.std.proofs.Common.{◌+◌, rules}
use Rattle.laws.specs.Made.{built}
use Rattle.merged_rows.specs.EnergyRows.{row_of, no_row}
use Rattle.merged_rows.proofs.energy.pack_rows.Goals as goal

-- `merged_rows::energy::pack_rows` meets its contract.
pub returns : goal.returns
unfolding row_of
returns c =
    let a = c.args in
    built (λ j. row_of a.xs.now a.ys.now a.truth.now a.counts.now (a.start + j)) 8 (λ i y q l k. search rules) c.from_fn.result no_row c.from_fn.ensures.items
