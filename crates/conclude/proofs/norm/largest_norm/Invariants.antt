use Rattle.std.proofs.Common.{◌≡◌, List, ℕ, length}
use Rattle.nodes.specs.Store.{store_of}
use Rattle.writer.specs.Kept.{Closed, Numbered}
use Rattle.conclude.specs.Norm.{largest_from}
use Rattle.conclude.proofs.norm.largest_norm.Given as goal

abbrev pub invariant-loop-i : goal.invariant-loop-i
invariant-loop-i l = (kept : List ℕ) → Numbered kept l.live (length (store_of l.store)) → Closed kept l.store → l.norm ≡ largest_from l.store kept l.i
