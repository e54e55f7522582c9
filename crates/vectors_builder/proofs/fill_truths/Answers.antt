use Rattle.std.proofs.Common.{arith}
use Rattle.vectors_builder.specs.Filled.{filled_next, filled_end}
use Rattle.vectors_builder.proofs.fill_truths.Goals as goal

pub loop-truth-preserved : goal.loop-truth-preserved
loop-truth-preserved c = record {
  read = filled_next _ _ _ _ _ _ c.loop-truth.invariant.read _ _ _ (omega arith) (omega arith) c.next_or_zero.ensures.number c.byte.ensures;
  shorter = omega arith;
}

pub returns-clause-truths : goal.returns-clause-truths
returns-clause-truths c = filled_end _ _ _ _ _ _ c.loop-truth.invariant.read (omega arith) (omega arith)
