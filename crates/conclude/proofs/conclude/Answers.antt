use Rattle.std.proofs.Common.{rules}
use Rattle.conclude.specs.Conclude.{kept_closed, has_room, answer_is, text_sourced, text_live}
use Rattle.conclude.proofs.conclude.Goals as goal

pub invariant_of-text : goal.invariant_of-text
invariant_of-text c = record {
  sourced = text_sourced _ _ _ _ c.requires c.keep-live.ensures;
  all_live = text_live _ _ _ _ c.requires c.keep-live.ensures;
}

pub answer-requires : goal.answer-requires
answer-requires c =
    let a = has_room _ _ _ _ c.requires c.keep-live.ensures in
    search rules

pub returns-clause-is : goal.returns-clause-is
returns-clause-is c =
    answer_is _ _ _ _ (c.is_over_norm.ensures _ c.keep-live.ensures (kept_closed _ _)) c.if-is_over_norm.false _ c.requires c.keep-live.ensures _ _
    (c.answer.ensures _ (λ before n after k. search rules))
