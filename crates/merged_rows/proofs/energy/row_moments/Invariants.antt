use Rattle.std.proofs.Common.{◌≡◌, ◌+◌, ◌-◌, fold, length, take}
use Rattle.merged_rows.specs.EnergyRows.{Grown, add_record}
use Rattle.merged_rows.proofs.energy.row_moments.Given as goal

-- `merged_rows::energy::row_moments` meets its contract: the rows passed are added.
abbrev pub invariant-loop-row : goal.invariant-loop-row
invariant-loop-row l = (l.moments ≡ fold add_record l.fn.sums (take l.row-index l.rows)) × Grown (2048 - length l.rows + l.row-index) l.moments
