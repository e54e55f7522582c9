use Rattle.std.proofs.Common.{sym, ap, ◌∙◌, length, take}
use Rattle.theorems.specs.Weights.{weights_of, weighted_norm}
use Rattle.nodes.specs.Store.{store_of}
use Rattle.cone.specs.Sources.{norm_of}
use Rattle.cone.specs.View.{cone_of}
use Rattle.cone.proofs.Cone.norm2.Goals as goal

-- `cone::Cone::norm2` meets its contract.
pub returns : goal.returns
returns c =
    let s = c.sources.ensures in
    let k = c.coefficients.ensures in
    let ws = c.weights_of-weights.result in
    let nodes = store_of c.args.store.now in
    c.coefficients_norm2.ensures ∙ ap (weighted_norm ws) k.are
    ∙ norm_of nodes (cone_of c.args.self) ws (sym (ap length s.are) ∙ s.count ∙ sym k.count ∙ ap length k.are)
    (ap (λ l. take (length l) ws) (sym s.are) ∙ c.weights_of-weights.ensures ∙ ap (weights_of nodes) s.are)
