use Rattle.std.proofs.Common.{arith}
use Rattle.vectors.specs.Numbers.{fill_stops, fill_next, fill_end}
use Rattle.vectors.proofs.Tokens.fill.Goals as goal

-- First, so that an edit is refused at this goal, which it makes false.
pub loop-token-preserved : goal.loop-token-preserved
loop-token-preserved c = record {
  read = fill_next _ _ _ _ _ c.loop-token.invariant.read _ _ (omega arith) (omega arith) c.in_ok-token.ensures.steps;
  shorter = omega (arith, c.in_ok-token.ensures.goes.on tt);
}

pub returns-in_err-token-clause-numbers : goal.returns-in_err-token-clause-numbers
returns-in_err-token-clause-numbers c =
    rw (fill_stops _ _ _ _ _ c.loop-token.invariant.read _ (omega arith) c.in_err-token.ensures.steps) c.from_residual.ensures

pub returns-clause-numbers : goal.returns-clause-numbers
returns-clause-numbers c = fill_end _ _ _ _ _ c.loop-token.invariant.read (omega arith) (omega arith)
