use Rattle.std.proofs.Common.{◌≡◌, map, length, take}
use Rattle.rules.specs.Store.{coefficient_of}
use Rattle.theorems.specs.Terms.{terms_over}
use Rattle.support.proofs.coefficients_over.Given as goal

-- `support::coefficients_over` meets its contract: the first i coefficients are the first i nodes'.
abbrev pub invariant-loop-i : goal.invariant-loop-i
invariant-loop-i l = record {
  long : length l.r ≡ 11;
  first : take l.i l.r ≡ take l.i (map (coefficient_of (terms_over l.coefs l.sources)) l.support);
}
