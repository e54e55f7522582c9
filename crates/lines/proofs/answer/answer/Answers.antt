use Rattle.lines.specs.Answer.{answer_short, answer-written}
use Rattle.lines.proofs.answer.answer.Goals as goal

pub returns-then-out-size : goal.returns-then-out-size
returns-then-out-size g c = λ t w. answer_short t _ _ (w _ _ _ c.write-size.ensures) _ c.if-out-size.true _ c.of_whole.ensures

pub returns : goal.returns
returns g c = λ t w. answer-written t _ _ (w _ _ _ c.write-size.ensures) _ c.if-out-size.false _ _ (w _ _ _ c.write.ensures)
