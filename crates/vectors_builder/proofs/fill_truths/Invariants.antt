use Rattle.std.proofs.Common.{length, ◌≤◌}
use Rattle.vectors_builder.specs.Shown.{byte_of}
use Rattle.vectors_builder.specs.Filled.{Filling}
use Rattle.vectors_builder.proofs.fill_truths.Given as goal

abbrev pub invariant-loop-truth : goal.invariant-loop-truth
invariant-loop-truth l = record {
  read : Filling byte_of (length l.initial.truth-items) l.truth-index l.fn.input.rest.now l.input.rest.now l.truth-items;
  shorter : length l.input.rest.now ≤ length l.fn.input.rest.now;
}
