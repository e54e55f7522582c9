use Rattle.std.proofs.Common.{◌≡◌, drop}
use Rattle.rules.specs.Span.{least_from, greatest_from, least, greatest}
use Rattle.known_rows.proofs.rows.bounds_of.Given as goal

-- `known_rows::rows::bounds_of` meets its contract. The bounds so far, taken on over the values that are left, are the values' bounds.
abbrev pub invariant-loop-v : goal.invariant-loop-v
invariant-loop-v l = record {
  low : least_from l.low (drop l.v-index l.v-items) ≡ least l.values;
  high : greatest_from l.high (drop l.v-index l.v-items) ≡ greatest l.values;
}
