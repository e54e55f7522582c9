use Rattle.std.proofs.Common.{rules, None}
use Rattle.convert.proofs.texts.own_numbers.Goals as goal

pub returns : goal.returns
returns c = record { at = λ j l. let r = c.from_fn.ensures.items.at j None l in search rules }
