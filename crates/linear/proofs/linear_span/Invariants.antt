use Rattle.std.proofs.Common.{◌≡◌, ◌+◌, drop}
use Rattle.theorems.specs.LinearTables.{total}
use Rattle.linear.proofs.linear_span.Given as goal

-- `linear::linear_span` meets its contract: the sum so far, and the absolute values that are left.
abbrev pub invariant-loop-c : goal.invariant-loop-c
invariant-loop-c l = l.sum + total (drop l.c-index l.coefs) ≡ total l.coefs + 1
