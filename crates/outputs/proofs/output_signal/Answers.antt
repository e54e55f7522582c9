use Rattle.std.proofs.Common.{arith}
use Rattle.outputs.specs.Outputs.{constant_is, constant_finishes, node_is, not_is, finishes_more}
use Rattle.outputs.proofs.output_signal.Goals as goal

pub returns-in-empty-clause-is : goal.returns-in-empty-clause-is
returns-in-empty-clause-is c = constant_is c.args.s.settings _ c.args.cone _ c.first_truth-first.ensures _ c.sources.ensures.are (omega (arith, c.in-empty.len_below))

pub returns-in-empty-clause-finishes : goal.returns-in-empty-clause-finishes
returns-in-empty-clause-finishes c = constant_finishes c.args.s.settings _ c.args.cone _ c.first_truth-first.ensures _ c.sources.ensures.are (omega (arith, c.in-empty.len_below))

pub returns-in-len1-clause-is : goal.returns-in-len1-clause-is
returns-in-len1-clause-is c =
    node_is c.args.s.settings _ c.args.cone _ c.first_truth-first.ensures _ c.sources.ensures.are (omega (arith, c.in-len1.len_at_least, c.in-len1.len_below)) c.if-first-eq0.true

pub returns-in-len1-2-clause-is : goal.returns-in-len1-2-clause-is
returns-in-len1-2-clause-is c =
    not_is c.args.s.settings _ c.args.cone _ c.first_truth-first.ensures _ c.sources.ensures.are (omega (arith, c.in-len1.len_at_least, c.in-len1.len_below)) _ c.if-first-eq0.false
    c.negation.ensures.is

pub returns-in-len1-2-clause-finishes : goal.returns-in-len1-2-clause-finishes
returns-in-len1-2-clause-finishes c = finishes_more _ _ (c.negation.ensures.finishes _)
