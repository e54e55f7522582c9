use Rattle.std.proofs.Common.{◌≡◌, ◌+◌, drop}
use Rattle.laws.specs.Integer.{plus, minus}
use Rattle.theorems.specs.LinearTables.{lower}
use Rattle.linear.proofs.linear_least.Given as goal

-- `linear::linear_least` meets its contract: the sum so far is not positive, and with the negative parts that are left it is all of them.
abbrev pub invariant-loop-c : goal.invariant-loop-c
invariant-loop-c l = record {
  not_positive : plus l.sum ≡ 0;
  negative_parts : minus l.sum + lower (drop l.c-index l.coefs) ≡ lower l.coefs;
}
