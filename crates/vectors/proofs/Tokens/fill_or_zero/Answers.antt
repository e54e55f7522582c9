use Rattle.std.proofs.Common.{arith}
use Rattle.vectors.specs.NumbersOrZero.{fill_or_zero_next, fill_or_zero_end}
use Rattle.vectors.proofs.Tokens.fill_or_zero.Goals as goal

pub loop-token-preserved : goal.loop-token-preserved
loop-token-preserved c = record {
  read = fill_or_zero_next _ _ _ _ _ c.loop-token.invariant.read _ _ (omega arith) (omega arith) c.next_or_zero.ensures.number;
  shorter = omega arith;
}

pub returns-clause-numbers : goal.returns-clause-numbers
returns-clause-numbers c = fill_or_zero_end _ _ _ _ _ c.loop-token.invariant.read (omega arith) (omega arith)
