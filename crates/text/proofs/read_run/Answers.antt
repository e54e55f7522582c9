use Rattle.std.proofs.Common.{rules, tests, not, ap, ◌∙◌}
use Rattle.std.proofs.lemmas.Iterator.{YieldsList-from_slice}
use Rattle.std.proofs.lemmas.Iterator.Search.{position_from_yields_List}
use Rattle.text.specs.Pieces.{part}
use Rattle.text.proofs.Run.{run_taken}
use Rattle.text.proofs.read_run.Goals as goal

pub returns : goal.returns
returns g c f good h k =
    ap part c.then_some.ensures
    ∙ run_taken f good c.args.s.now c.split_at.result.0 c.split_at.result.1 c.position.result
    (position_from_yields_List (λ b. not (f b)) _ _ _ c.position.ensures.ran (YieldsList-from_slice c.args.s.now (cc)) (λ x r q l. search (rules, tests, h)))
    c.unwrap_or-end.ensures c.split_at.ensures.front c.split_at.ensures.back c.is_good.result (k _ _ c.is_good.ensures)
