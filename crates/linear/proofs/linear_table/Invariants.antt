use Rattle.std.proofs.Common.{◌≡◌, ◌++◌, length, drop}
use Rattle.std.specs.Slice.Iter.{iter_rest}
use Rattle.std.specs.Iterator.Adapters.{rev_source}
use Rattle.laws.specs.Over.{over}
use Rattle.rules.specs.Cone.{linear_table}
use Rattle.linear.proofs.linear_table.Given as goal

-- `linear::linear_table` meets its contract: the table of the coefficients that were taken, from the last one on, stands in the front.
abbrev pub invariant-loop-c : goal.invariant-loop-c
invariant-loop-c l =
    let left = iter_rest (rev_source l.c-iterator) in
    let taken = drop (length left) l.coefs in
    record {
      all : left ++ taken ≡ l.coefs;
      size : l.half ≡ length (linear_table taken);
      long : length l.table ≡ length l.initial.table;
      values : l.table ≡ over (linear_table taken) l.initial.table;
    }
