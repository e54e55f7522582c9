use Rattle.std.proofs.Common.{◌∙◌, arith, w32}
use Rattle.laws.specs.Integer.{read_back-at}
use Rattle.vectors_builder.specs.Filled.{filled_next, filled_end}
use Rattle.vectors_builder.proofs.fill_values.Goals as goal

pub loop-value-preserved : goal.loop-value-preserved
loop-value-preserved c = record {
  read = filled_next _ _ _ _ _ _ c.loop-value.invariant.read _ _ _ (omega arith) (omega arith) c.next_or_zero.ensures.number (read_back-at w32 c.signed.result c.signed.type_inv ∙ c.signed.ensures);
  shorter = omega arith;
}

pub returns-clause-values : goal.returns-clause-values
returns-clause-values c = filled_end _ _ _ _ _ _ c.loop-value.invariant.read (omega arith) (omega arith)
