use Rattle.std.proofs.Common.{◌∙◌, refl, rules}
use Rattle.std.proofs.lemmas.Iterator.{YieldsList-from_range}
use Rattle.std.proofs.lemmas.Iterator.Search.{all_from_yields_List}
use Rattle.rules.specs.Network.{node_at}
use Rattle.nodes.specs.Store.{store_of}
use Rattle.network_run.specs.Nodes.{turn_all}
use Rattle.network_run.specs.Value.{turns, table_bits, turns_table}
use Rattle.std.proofs.iter.Serving.{serving}
use Rattle.network_run.proofs.walk.are_rotatable.Goals as goal

pub all-requires-clause-callable : goal.all-requires-clause-callable
all-requires-clause-callable c = grind (serving, table_bits)

pub returns : goal.returns
returns c =
    all_from_yields_List (λ i. turns c.args.p (node_at (store_of c.args.store.now) i)) _ _ _ c.all.ensures.ran (YieldsList-from_range 0 c.len.result c.len.result refl (search rules)) (λ x b q k. search (turns_table, rules))
    ∙ turn_all c.args.p (store_of c.args.store.now) _ c.len.ensures.0
