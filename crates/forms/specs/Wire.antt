-- A wire, whose ID is read up to 65536.
use Rattle.std.specs.Prelude.{min}
use Rattle.rules.specs.declared.Wire.{Wire}
use Rattle.rules.specs.declared.Wire.TheVariants.{Const, Node}
use Rattle.rules.specs.Form.{Reader, give, ◌>>=◌, ◌>>◌, word, number}

unfoldable pub cap_wire : Wire → Wire
cap_wire (Const b) = Const b
cap_wire (Node i) = Node (min 65536 i)

-- `(n ID)`
unfoldable pub node_wire : Reader Wire
node_wire = do
  word "(n "
  i ← number
  word ")"
  give (Node i)
