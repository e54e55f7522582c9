use Rattle.std.proofs.Common.{◌∙◌, refl, rules, length}
use Rattle.std.proofs.lemmas.Iterator.{YieldsList-from_range}
use Rattle.std.proofs.lemmas.Iterator.Search.{any_from_yields_List}
use Rattle.rules.specs.Network.{node_at}
use Rattle.nodes.specs.Store.{store_of}
use Rattle.nodes.specs.View.{lut_node}
use Rattle.lut.specs.Reuse.{takes_node, taken_any}
use Rattle.lut.proofs.reuse.is_taken.Goals as goal

pub returns : goal.returns
returns c =
    any_from_yields_List (λ i. takes_node (lut_node c.args.node.now) (store_of c.args.store.now) (node_at (store_of c.args.store.now) i)) _ _ _ c.any.ensures.ran
    (YieldsList-from_range 0 c.len.result (length (store_of c.args.store.now)) refl (search rules)) (λ x b q k. search rules)
    ∙ taken_any (lut_node c.args.node.now) (store_of c.args.store.now)
