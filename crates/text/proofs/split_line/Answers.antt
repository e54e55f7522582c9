use Rattle.std.proofs.Common.{rules, tests, eqb, ◌∙◌}
use Rattle.std.proofs.lemmas.Iterator.{YieldsList-from_slice}
use Rattle.std.proofs.lemmas.Iterator.Search.{position_from_yields_List}
use Rattle.text.proofs.Run.{line_taken, line_left}
use Rattle.text.proofs.split_line.Goals as goal

pub returns-clause-line : goal.returns-clause-line
returns-clause-line c =
    c.split_at.ensures.front
    ∙ line_taken c.args.s.now c.position.result
    (position_from_yields_List (λ b. eqb b 10) _ _ _ c.position.ensures.ran (YieldsList-from_slice c.args.s.now (cc)) (λ x r q k. search (rules, tests)))
    c.unwrap_or-end.ensures c.min.ensures

pub returns-clause-rest : goal.returns-clause-rest
returns-clause-rest c =
    c.split_at.ensures.back
    ∙ line_left c.args.s.now c.position.result
    (position_from_yields_List (λ b. eqb b 10) _ _ _ c.position.ensures.ran (YieldsList-from_slice c.args.s.now (cc)) (λ x r q k. search (rules, tests)))
    c.unwrap_or-end.ensures c.min.ensures
