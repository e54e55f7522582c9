use Rattle.std.proofs.Common.{◌≡◌, ◌≤ℤ◌, length, replicate, None}
use Rattle.rotation.specs.Entries.{numbers}
use Rattle.search.specs.Search.{context_of, entered_from, step_at, walk_all}
use Rattle.search.specs.Walk.{walk_row, walk, count_to}
use Rattle.search.proofs.search.Given as goal

-- `search::search` meets its contract. The pairs that are left, walked from the best so far, give what all pairs give from the start; likewise
-- the rows that are left, entered into what is known so far.
abbrev pub invariant-loop-i : goal.invariant-loop-i
invariant-loop-i l =
    (length l.known ≡ 32) × (entered_from l.pair l.xs l.ys l.truth l.i (numbers l.known) ≡ entered_from l.pair l.xs l.ys l.truth 0 (replicate 32 2))

abbrev pub invariant-pair : goal.invariant-pair
invariant-pair l =
    let step = step_at (context_of l.context) l.xs l.ys l.truth in
    let b = l.ranges.b in
    (b.start ≤ℤ l.b) × (walk_row step l.a l.b (count_to l.b b.end) l.best ≡ walk_row step l.a b.start (count_to b.start b.end) l.initial.best)

abbrev pub invariant-loop-a : goal.invariant-loop-a
invariant-loop-a l =
    let step = step_at (context_of l.context) l.xs l.ys l.truth in
    let b = l.ranges.b in
    (l.ranges.a.start ≤ℤ l.a) × (walk step b.start (count_to b.start b.end) l.a (count_to l.a l.ranges.a.end) l.best ≡ walk_all step l.ranges None)
