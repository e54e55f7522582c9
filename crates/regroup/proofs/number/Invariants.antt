use Rattle.std.proofs.Common.{◌≡◌}
use Rattle.regroup.specs.Numbers.{Numbering}
use Rattle.regroup.proofs.number.Given as goal

-- `regroup::number` meets its contract: of the numbers those are left that the iterator has left.
abbrev pub invariant-loop-i : goal.invariant-loop-i
invariant-loop-i l = (l.i-iterator.iter.count ≡ 0) × Numbering l.order l.i-iterator.iter.iter.rest.now l.live
