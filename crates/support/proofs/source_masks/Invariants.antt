use Rattle.std.proofs.Common.{◌≡◌, ◌++◌, ℕ, ◌<◌, ◌^◌, length, get_or, drop}
use Rattle.std.specs.Slice.Iter.{iter_rest}
use Rattle.std.specs.Iterator.Adapters.{rev_source}
use Rattle.support.specs.Rows.{hit_mask}
use Rattle.support.proofs.source_masks.Given as goal

-- `support::source_masks` meets its contract: the masks are those of the sources that were taken, from the last one on.
abbrev pub invariant-loop-source : goal.invariant-loop-source
invariant-loop-source l =
    let left = iter_rest (rev_source l.source-iterator) in
    let taken = drop (length left) l.sources in
    record {
      all : left ++ taken ≡ l.sources;
      twelve : length l.masks ≡ 12;
      power : l.bit ≡ 2 ^ length taken;
      so_far : (z : ℕ) → z < 12 → get_or l.masks z 0 ≡ hit_mask l.support taken z;
    }
