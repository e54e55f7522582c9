-- Depths reckoned by hand (document 02, S-7), evaluated by the checker.
use Rattle.std.specs.Prelude.{◌≡◌, refl, List, [], ◌∷◌, ℕ, pos}
use Rattle.rules.specs.declared.Limit.TheVariants.{Unlimited}
use Rattle.rules.specs.declared.Wire.TheVariants.{Const, Node}
use Rattle.rules.specs.Circuit.{Output}
use Rattle.rules.specs.Network.{Term, LutNode, Input, Linear, Bootstrap, Network, largest, node_depth, depths_from, depths, largest_depth, stats}

abbrev input : LutNode
input = Input (record { name = 97 ∷ []; weight = 1 })

-- the sum of these nodes
unfoldable pub sum : List ℕ → List Term
sum [] = []
sum (i ∷ is) = record { coef = pos 1; node = i } ∷ sum is

-- Boots on a sum, on a boot and on an input; sums whose deepest source stands first, in the middle and last.
unfoldable pub nodes : List LutNode
nodes =
    input
    ∷ input
    ∷ Linear (pos 0) (sum (0 ∷ 1 ∷ []))
    ∷ Bootstrap 2 (0 ∷ 0 ∷ 1 ∷ [])
    ∷ Bootstrap 3 (1 ∷ 0 ∷ [])
    ∷ Bootstrap 0 (0 ∷ 1 ∷ [])
    ∷ Linear (pos 0) (sum (5 ∷ 4 ∷ 1 ∷ []))
    ∷ Bootstrap 6 (0 ∷ 1 ∷ 1 ∷ 0 ∷ [])
    ∷ Linear (pos 0) (sum (3 ∷ 0 ∷ []))
    ∷ Linear (pos 0) (sum (1 ∷ 5 ∷ 7 ∷ []))
    ∷ []

pub in_turn : depths nodes ≡ 0 ∷ 0 ∷ 0 ∷ 1 ∷ 2 ∷ 1 ∷ 2 ∷ 3 ∷ 1 ∷ 3 ∷ []
unfolding nodes sum largest node_depth depths_from depths
in_turn = refl

-- The outputs need nodes up to depth 2; the statistics show the largest of all.
abbrev network : Network
network =
    let x : Output = record { name = 120 ∷ []; wire = Node 4 } in
    let y : Output = record { name = 121 ∷ []; wire = Const 1 } in
    record { p = 4; m = 8; norm = Unlimited; nodes = nodes; outputs = x ∷ y ∷ [] }

pub of_all : (stats network).depth ≡ 3
unfolding nodes sum largest node_depth depths_from depths largest_depth stats
of_all = refl

pub of_none : largest_depth [] ≡ 0
unfolding largest depths_from depths largest_depth
of_none = refl
