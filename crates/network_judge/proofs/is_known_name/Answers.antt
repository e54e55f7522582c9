use Rattle.std.proofs.Common.{◌∙◌, rules}
use Rattle.std.proofs.lemmas.Iterator.{YieldsList-from_slice}
use Rattle.std.proofs.lemmas.Iterator.Search.{any_from_yields_List}
use Rattle.nodes.specs.Store.{store_of}
use Rattle.network_judge.specs.Scans.{has_name, of_stored, any_stored, any_name}
use Rattle.network_judge.proofs.is_known_name.Goals as goal

pub returns : goal.returns
unfolding store_of
returns c =
    any_from_yields_List (of_stored (has_name c.args.name.now)) _ _ _ c.any.ensures.ran (YieldsList-from_slice _ (search rules)) (λ x b q k. search rules)
    ∙ any_stored (has_name c.args.name.now) _
    ∙ any_name c.args.name.now (store_of c.args.store.now)
