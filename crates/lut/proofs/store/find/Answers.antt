use Rattle.std.proofs.Common.{◌≡◌, true, false, rules}
use Rattle.std.proofs.lemmas.Iterator.{first_from_Range}
use borrow.Author.Tests.{tests}
use Rattle.rules.specs.Network.{node_at}
use Rattle.rules.specs.Store.{same_node}
use Rattle.nodes.specs.Store.{store_of}
use Rattle.nodes.specs.View.{lut_node}
use Rattle.lut.specs.Equal.{node_same}
use Rattle.lut.specs.Store.{node_found}
use Rattle.lut.proofs.store.find.Goals as goal

pub returns : goal.returns
returns c =
    node_found (lut_node c.args.node.now) (store_of c.args.store.now) _ _ c.len.ensures.0
    (first_from_Range _ _ _ _ (λ i. same_node (lut_node c.args.node.now) (node_at (store_of c.args.store.now) i) ≡ true) (λ i. same_node (lut_node c.args.node.now) (node_at (store_of c.args.store.now) i) ≡ false) c.find.ensures.ran
    (λ x q k. search (rules, tests, node_same)) (λ x q k. search (rules, tests, node_same)))
