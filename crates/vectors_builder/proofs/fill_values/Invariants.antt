use Rattle.std.proofs.Common.{length, ◌≤◌}
use Rattle.vectors.specs.Token.{signed_of}
use Rattle.vectors_builder.specs.Filled.{Filling}
use Rattle.vectors_builder.proofs.fill_values.Given as goal

abbrev pub invariant-loop-value : goal.invariant-loop-value
invariant-loop-value l = record {
  read : Filling signed_of (length l.initial.value-items) l.value-index l.fn.input.rest.now l.input.rest.now l.value-items;
  shorter : length l.input.rest.now ≤ length l.fn.input.rest.now;
}
