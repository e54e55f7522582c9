use Rattle.std.proofs.Common.{arith, rules}
use Rattle.rules.specs.Service.{end_line}
use Rattle.answer.specs.Front.{front_end}
use Rattle.answer.proofs.put_end.Goals as goal

pub returns : goal.returns
unfolding end_line
returns c = front_end (omega (arith, c.requires)) c.put_all.ensures (search rules)
