use Rattle.std.proofs.Common.{◌≡◌, ◌+◌, ◌*◌, ◌≤◌, length}
use Rattle.std.specs.Slice.Iter.{iter_rest}
use Rattle.std.specs.Iterator.Adapters.{zip_first, zip_second}
use Rattle.theorems.specs.Weights.{weighted_norm}
use Rattle.scale.specs.Limits.{Within}
use Rattle.scale.proofs.coefficients_norm2.Given as goal

-- `scale::coefficients_norm2` meets its contract: the sum so far, with the norm of what is left, is the whole norm; and a turn adds at most 1984² times 255.
abbrev pub invariant-loop-c : goal.invariant-loop-c
invariant-loop-c l =
    let coefs = iter_rest (zip_first l.c-iterator) in
    let weights = iter_rest (zip_second l.c-iterator) in
    record {
      small : Within 1984 coefs;
      room : l.sum + length coefs * 1003745280 ≤ 11 * 1003745280;
      value : l.sum + weighted_norm weights coefs ≡ weighted_norm l.weights l.coefs;
    }
