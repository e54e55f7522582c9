use Rattle.std.proofs.Common.{◌≡◌, length, take}
use Rattle.scale_pair.specs.Pair.{merged_row}
use Rattle.scale_pair.proofs.pair.merge_rows.Given as goal

abbrev pub invariant-loop-i : goal.invariant-loop-i
invariant-loop-i l = (length l.coefs ≡ 11) × (take l.i l.coefs ≡ take l.i (merged_row l.a l.b l.left l.right))
