use Rattle.std.proofs.Common.{◌∙◌, ap, arith, rules}
use Rattle.std.proofs.lemmas.Iterator.{YieldsList-from_slice}
use Rattle.std.proofs.lemmas.Iterator.Adapters.{serves_from_places}
use Rattle.std.proofs.lemmas.Iterator.Search.{all_from_yields_List}
use Rattle.nodes.specs.declared.node.Term.{Term}
use Rattle.nodes.specs.Seen.{term_below}
use Rattle.nodes.specs.Store.{store_of}
use Rattle.workers.specs.Begun.{begun_in}
use Rattle.workers.specs.Ready.{done_term, done_terms}
use Rattle.workers.proofs.ready.are_done.Goals as goal

pub all-requires-clause-callable : goal.all-requires-clause-callable
all-requires-clause-callable c =
    serves_from_places (YieldsList-from_slice c.args.terms.now c.iter.ensures.rest) (λ x q k. search rules)
    (λ x k h e. λ _ _ _ _ _ get _. omega (arith, get.ensures, ap (λ (t : Term). t.node) e, term_below c.args.terms.now k x.now h _ c.requires))

pub returns : goal.returns
returns c =
    all_from_yields_List (done_term (store_of c.args.store.now) (begun_in c.args.begun.now)) _ _ _ c.all.ensures.ran (YieldsList-from_slice _ (search rules)) (λ x b q k. search rules)
    ∙ done_terms (store_of c.args.store.now) (begun_in c.args.begun.now) c.args.terms.now
