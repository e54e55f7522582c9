use Rattle.std.proofs.Common.{◌∙◌, arith, refl}
use Rattle.std.proofs.lemmas.List.{length-map}
use Rattle.nodes.specs.Grown.{few_grown, fine_grown, deep_grown, adds_grown}
use Rattle.nodes.specs.Store.{store_of}
use Rattle.nodes.specs.View.{nodes_of}
use Rattle.nodes.proofs.store.Store.push.Goals as goal

pub push-requires : goal.push-requires
unfolding store_of nodes_of
push-requires c = (omega arith, rw length-map at c.requires.0)

pub invariant_of-self : goal.invariant_of-self
invariant_of-self c =
    record {
      few = few_grown c.args.self.now _ _ c.push.ensures.items c.requires.0;
      fine = fine_grown c.args.self.now _ _ c.push.ensures.items c.requires.1;
      deep = deep_grown c.args.self.now _ _ c.push.ensures.items (c.new.ensures ∙ c.depth_of-depth.ensures.0);
    }

pub returns : goal.returns
returns c = adds_grown c.args.self.now _ _ c.push.ensures.items _ refl
