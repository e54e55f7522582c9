use Rattle.std.proofs.Common.{ℕ, sym}
use Rattle.std.proofs.lemmas.List.{length-replicate, length-take-le}
use Rattle.retune.specs.Safety.{answer_fits, continued_text, continued_long, continued_refused}
use Rattle.retune.proofs.kept.continued.Goals as goal

pub slice_bounds-text-end : goal.slice_bounds-text-end
slice_bounds-text-end c = answer_fits _ _ _ _ c.in-Ok.ensures.is

pub slice_bounds-answer_admitted-end : goal.slice_bounds-answer_admitted-end
slice_bounds-answer_admitted-end c = sym (length-take-le _ _ (answer_fits _ _ _ _ c.in-Ok.ensures.is))

pub returns-in-Ok-clause-is : goal.returns-in-Ok-clause-is
returns-in-Ok-clause-is c = continued_text _ _ _ (length-replicate {A = ℕ} 65536 0) _ _ c.in-Ok.ensures.is _ _ c.answer_admitted.ensures

pub returns-in-Err-clause-is : goal.returns-in-Err-clause-is
returns-in-Err-clause-is c = continued_long _ _ _ (length-replicate {A = ℕ} 65536 0) _ _ c.in-Err.ensures.is _ c.is_short.ensures c.if-is_short.true

pub returns-in-Err-2-clause-is : goal.returns-in-Err-2-clause-is
returns-in-Err-2-clause-is c = continued_refused _ _ _ (length-replicate {A = ℕ} 65536 0) _ _ c.in-Err.ensures.is _ c.is_short.ensures c.if-is_short.false
