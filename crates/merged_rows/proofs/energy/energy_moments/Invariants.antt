use Rattle.std.proofs.Common.{◌*◌, min}
use Rattle.merged_rows.specs.EnergyRows.{SoFar}
use Rattle.merged_rows.proofs.energy.energy_moments.Given as goal

-- `merged_rows::energy::energy_moments` meets its contract, block by block.
abbrev pub invariant-loop-block : goal.invariant-loop-block
invariant-loop-block l = SoFar (min (8 * l.block) l.n) l.xs l.ys l.counts l.moments
