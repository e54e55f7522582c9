use Rattle.std.proofs.Common.{sym, ◌∙◌}
use Rattle.search.specs.Reuse.{sum_good, reuse_many}
use Rattle.search.proofs.reuse_cost.Goals as goal

pub has_bootstrap-requires : goal.has_bootstrap-requires
has_bootstrap-requires c = sum_good _ _ _ c.sum_of.ensures _ c.requires.0 c.requires.1 c.args.context.stored

pub returns-then-has_bootstrap : goal.returns-then-has_bootstrap
returns-then-has_bootstrap c = reuse_many _ _ _ c.sum_of.ensures _ _ _ c.requires.1 c.if-context.true (sym c.has_bootstrap.ensures ∙ c.if-has_bootstrap.true)
