use Rattle.merged_rows.proofs.Turn.{Compacting}
use Rattle.merged_rows.proofs.rows.compact_rows.Given as goal

-- `merged_rows::rows::compact_rows` meets its contract: the rows so far stand for the assignments passed.
abbrev pub invariant-loop-i : goal.invariant-loop-i
invariant-loop-i l = Compacting l.f l.initial.xs l.initial.ys l.initial.truth l.i l.n l.xs l.ys l.truth l.counts l.places
