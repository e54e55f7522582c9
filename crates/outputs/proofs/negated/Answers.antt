use mathlib.Core.List.{zip_with}
use Rattle.nodes.specs.View.{term}
use Rattle.outputs.proofs.negated.Goals as goal

pub returns : goal.returns
unfolding term zip_with
returns c = record { few = c.over.ensures.few; constant = c.over.ensures.constant; are = c.over.ensures.terms }
