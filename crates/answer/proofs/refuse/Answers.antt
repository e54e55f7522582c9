use Rattle.std.proofs.Common.{rules}
use Rattle.answer.specs.Front.{refusal_ends, front-refusal}
use Rattle.answer.proofs.refuse.Goals as goal

pub put_end-requires : goal.put_end-requires
put_end-requires c = refusal_ends c.put_refusal-n.ensures (search rules) (search rules) c.requires

pub returns : goal.returns
returns c =
    front-refusal c.put_refusal-n.ensures (search rules) (search rules) c.requires c.put_end.ensures
