use Rattle.std.proofs.Common.{◌∙◌, sym}
use Rattle.std.proofs.lemmas.List.{length-map}
use Rattle.nodes.specs.Norm.{sum_terms, norm_linear, norm_input, norm_bootstrap}
use Rattle.nodes.specs.Store.{store_of}
use Rattle.nodes.specs.View.{seen_input, seen_linear, seen_bootstrap, terms_seen}
use Rattle.nodes.proofs.store.Store.norm.Goals as goal

pub norm_of-requires : goal.norm_of-requires
unfolding terms_seen
norm_of-requires c =
    let e = seen_linear _ _ _ _ c.node.ensures c.in-Linear.is in
    let f = sum_terms c.args.self.now c.args.i _ _ c.requires e in
    rw c.deref.ensures.0 (f.0, rw length-map at f.1)

pub returns-in-Linear : goal.returns-in-Linear
returns-in-Linear c =
    let e = seen_linear _ _ _ _ c.node.ensures c.in-Linear.is in
    rw c.deref.ensures.0 at c.norm_of.ensures ∙ sym (norm_linear (store_of c.args.self.now) _ _ _ e)

pub returns-in-Input : goal.returns-in-Input
returns-in-Input c = sym (norm_input (store_of c.args.self.now) _ _ (seen_input _ _ _ _ c.node.ensures c.in-Input.is))

pub returns-in-Bootstrap : goal.returns-in-Bootstrap
returns-in-Bootstrap c = sym (norm_bootstrap (store_of c.args.self.now) _ _ _ (seen_bootstrap _ _ _ _ c.node.ensures c.in-Bootstrap.is))
