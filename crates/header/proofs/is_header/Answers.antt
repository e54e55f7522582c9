use Rattle.std.proofs.Common.{arith, ◌∙◌}
use Rattle.header.specs.Lengths.{header-long}
use Rattle.header.specs.Compared.{laid_whole, front_compared}
use Rattle.header.proofs.is_header.Goals as goal

pub put_header-requires-clause-room : goal.put_header-requires-clause-room
put_header-requires-clause-room c = record { fits = omega (arith, header-long c.requires) }

pub returns : goal.returns
returns c = front_compared _ (c.put_header.ensures.bytes ∙ laid_whole _ _ (header-long c.requires)) (header-long c.requires) c.begins_with.ensures
