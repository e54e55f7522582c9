use Rattle.std.specs.Prelude.{◌-◌, replicate}
use Rattle.lines.specs.Put.{Left}
use Rattle.cells.proofs.put_zeros.Given as goal

abbrev pub invariant-loop : goal.invariant-loop
invariant-loop l = Left (replicate l.n 0) l.initial.cursor (replicate (l.n - l.counter) 0) l.cursor
