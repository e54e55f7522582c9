-- The order of cones and the sides of a gate, as the code holds them.
use Rattle.std.specs.Prelude.{List, [], ◌∷◌, ℤ, pos}
use Rattle.rules.specs.Network.{LutNode}
use Rattle.rules.specs.Mapper as rules
use Rattle.cone.specs.declared.order.OrderKey.{OrderKey}
use Rattle.cone.specs.declared.order.Side.{Side}
use Rattle.cone.specs.declared.order.Sides.{Sides}
use Rattle.cone.specs.View.{cone_of}

unfoldable pub key_of : OrderKey → List ℤ
key_of k = pos k.span ∷ pos k.norm ∷ []

unfoldable pub side_of : Side → rules.Side
side_of s = record { cone = cone_of s.cone; new = s.booted }

-- with the node store beside them
unfoldable pub sides_of : List LutNode → Sides → rules.Sides
sides_of nodes s = record { nodes = nodes; left = side_of s.left; right = side_of s.right; gate = s.gate; switched = s.switched }
