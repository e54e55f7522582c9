use Rattle.std.proofs.Common.{◌∙◌, rules}
use Rattle.std.proofs.lemmas.Iterator.{YieldsList-from_slice}
use Rattle.std.proofs.lemmas.Iterator.Search.{any_from_yields_List}
use Rattle.nodes.specs.Store.{store_of}
use Rattle.network_judge.specs.Scans.{of_stored, any_stored}
use Rattle.many_judge.specs.Sources.{takes_source, any_taken}
use Rattle.many_judge.proofs.has_tables.Goals as goal

pub returns : goal.returns
unfolding store_of
returns c =
    any_from_yields_List (of_stored (takes_source c.args.source)) _ _ _ c.any.ensures.ran (YieldsList-from_slice _ (search rules)) (λ x b q k. search rules)
    ∙ any_stored (takes_source c.args.source) _
    ∙ any_taken c.args.source (store_of c.args.store.now)
