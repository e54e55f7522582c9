use Rattle.std.proofs.Common.{◌∙◌, rules}
use Rattle.std.proofs.lemmas.Iterator.{YieldsList-from_slice}
use Rattle.std.proofs.lemmas.Iterator.Search.{any_from_yields_List}
use Rattle.nodes.specs.Store.{store_of}
use Rattle.nodes.specs.Terms.{terms_in}
use Rattle.network_judge.specs.Scans.{bad_summand, any_bad}
use Rattle.network_judge.proofs.has_bad_source.Goals as goal

pub returns : goal.returns
unfolding terms_in
returns c =
    any_from_yields_List (bad_summand (store_of c.args.store.now)) _ _ _ c.any.ensures.ran (YieldsList-from_slice _ (search rules)) (λ x b q k. search rules)
    ∙ any_bad (store_of c.args.store.now) _
