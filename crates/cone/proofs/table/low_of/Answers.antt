use Rattle.std.proofs.Common.{◌≡◌, ◌∙◌, arith, w32, w64, to_z, of_z, to_z-of_z}
use Rattle.rules.specs.Cone as rules
use Rattle.laws.specs.Integer.{fits_abs, read_back}
use Rattle.rules.specs.Span.{least}
use Rattle.cone.specs.View.{cone_of, low_small}
use Rattle.cone.proofs.table.low_of.Goals as goal
use Rattle.cone.proofs.table.low_of.Goals.{After-least}

result_is : (c : After-least) → to_z w64 (of_z w64 c.least.result) ≡ least (rules.values (cone_of c.args.cone))
result_is c = read_back c.least.result c.least.type_inv ∙ c.least.ensures

pub overflow_cast-result : goal.overflow_cast-result
overflow_cast-result c = rw (result_is c) (fits_abs _ (omega (arith, low_small c.args.cone)))

pub returns : goal.returns
returns c = to_z-of_z {w = w32} (overflow_cast-result c) ∙ result_is c
