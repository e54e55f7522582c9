use Rattle.std.proofs.Common.{◌∙◌, arith}
use Rattle.std.proofs.lemmas.Grind.{common_steps}
use Rattle.rules.specs.Cone.{terms}
use Rattle.cone.specs.View.{low_small}
use Rattle.nodes.specs.View.{term}
use Rattle.bootstrap.proofs.boot.sum_of.Goals as goal

pub overflow_sub-least : goal.overflow_sub-least
overflow_sub-least c = grind (arith, common_steps, low_small c.args.d)

pub returns : goal.returns
unfolding terms term
returns c =
    record {
      few = c.over.ensures.few;
      constant = c.over.ensures.constant ∙ grind (arith, common_steps, low_small c.args.d);
      are = rw (c.coefficients.ensures.are, c.sources.ensures.are) at c.over.ensures.terms;
    }
