-- A wire whose number its bytes hold.
use Rattle.std.specs.Prelude.{◌<◌}
use Rattle.rules.specs.declared.Wire.{Wire}
use Rattle.rules.specs.declared.Wire.TheVariants.{Const, Node}

abbrev pub SmallWire : Wire → Type 0
SmallWire (Const b) = Unit
SmallWire (Node i) = i < 256
