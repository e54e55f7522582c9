use Rattle.nodes.specs.Terms.{Made}
use Rattle.nodes.proofs.node.terms_of.Given as goal

abbrev pub invariant-loop-term : goal.invariant-loop-term
invariant-loop-term l = Made l.t l.term-index l.terms.items
