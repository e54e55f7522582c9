use Rattle.std.proofs.Common.{arith}
use Rattle.std.proofs.lemmas.Grind.{common_steps}
use Rattle.rotation.specs.Entries.{entries_back}
use Rattle.search.specs.Search.{considered, score_of}
use Rattle.search.proofs.considered.Goals as goal

pub energy_of-requires : goal.energy_of-requires
energy_of-requires c = (c.args.context.small, c.requires.0)

pub returns : goal.returns
unfolding considered score_of
returns c = grind (arith, common_steps, c.reuse_cost.ensures, entries_back c.args.known)
