-- What one attempt answers.
use Rattle.std.specs.Prelude as P
use Rattle.std.proofs.Math.Option.{Option}
use Rattle.rules.specs.Cone as C
use Rattle.cone.specs.declared.Cone.{Cone}
use Rattle.cone.specs.View.{cone_of}
use Rattle.search.specs.Options.{option_by}

abbrev pub tried_of : P.Option Cone → Option C.Cone
tried_of o = option_by cone_of o
