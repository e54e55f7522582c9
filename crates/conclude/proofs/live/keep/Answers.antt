use Rattle.std.proofs.Common.{false}
use Rattle.std.proofs.lemmas.List.{get_or-replicate}
use Rattle.conclude.specs.Live.{keeps}
use Rattle.conclude.proofs.live.keep.Goals as goal

pub returns : goal.returns
returns c = keeps _ _ _ _ _ (λ i h. get_or-replicate 672 i false false h) c.mark_outputs.ensures c.prune.ensures
