use Rattle.std.proofs.Common.{◌≡◌, sym, ◌∙◌, List, ℕ, ◌<◌, arith, length, get_or, length-set}
use lib.ListN.{length-map}
use Rattle.laws.specs.Front.{taken_step, taken-all}
use Rattle.laws.specs.Lists.{map_at}
use Rattle.rules.specs.Network.{LutNode, weight_of, node_at}
use Rattle.theorems.specs.Weights.{weights_of}
use Rattle.nodes.specs.Store.{store_of}
use Rattle.cone.proofs.weights.weights_of.Goals as goal

-- `cone::weights::weights_of` meets its contract: the sources passed have their weights.
module _ (nodes : List LutNode) (sources : List ℕ) where
  weights_long : length (weights_of nodes sources) ≡ length sources
  unfolding weights_of
  weights_long = length-map sources (λ (i : ℕ). weight_of (node_at nodes i))

  weight_in : (k : ℕ) → k < length sources → get_or (weights_of nodes sources) k 0 ≡ weight_of (node_at nodes (get_or sources k 0))
  unfolding weights_of
  weight_in k h = map_at (λ (i : ℕ). weight_of (node_at nodes i)) sources k 0 0 h

pub loop-k-preserved : goal.loop-k-preserved
loop-k-preserved c =
    let o = c.loop-k in
    let nodes = store_of c.args.store.now in
    let sources = c.args.sources.now in (
      simp length-set o.invariant.0,
      taken_step (weights_of nodes sources) o.weights o.k _ 0 o.invariant.1 (c.weight.ensures.0 ∙ sym (weight_in nodes sources o.k (omega arith)))
          (rw (weights_long nodes sources) (omega arith)) (omega (arith, c.requires.0)),
    )

pub returns : goal.returns
returns c =
    let o = c.loop-k in
    let nodes = store_of c.args.store.now in
    let sources = c.args.sources.now in
    let e : o.k ≡ length sources = omega arith in
    rw e at (taken-all (weights_of nodes sources) o.weights o.k o.invariant.1 (e ∙ sym (weights_long nodes sources)))
