use Rattle.std.proofs.Common.{◌∙◌}
use Rattle.theorems.specs.Names.{same_bytes}
use Rattle.header.specs.Compared.{name_swap}
use Rattle.header.proofs.begins_with.Goals as goal

pub returns : goal.returns
returns c = c.starts_with.ensures.value ∙ same_bytes _ _ ∙ name_swap _ _
