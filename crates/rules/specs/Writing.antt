-- How a network is written (document 01, "The text forms").
use Rattle.std.specs.Prelude.{List, [], ◌∷◌, ◌++◌, ℕ, zero, suc, ◌+◌, ◌/◌, ◌%◌, ltb, eqb, ℤ, pos, negsuc}
use Rattle.laws.specs.Test.{if◌then◌otherwise◌}
use Rattle.rules.specs.declared.Limit.{Limit}
use Rattle.rules.specs.declared.Limit.TheVariants.{Unlimited, AtMost}
use Rattle.rules.specs.declared.Wire.{Wire}
use Rattle.rules.specs.declared.Wire.TheVariants.{Const, Node}
use Rattle.rules.specs.Circuit.{Output}
use Rattle.rules.specs.Form.{bytes}
use Rattle.rules.specs.Network.{Term, LutNode, Input, Linear, Bootstrap, Network}

-- The digits of n, by at most k divisions.
unfoldable pub digits_within : ℕ → ℕ → List ℕ
digits_within zero n = (48 + n) ∷ []
digits_within (suc k) n =
    let r = digits_within k (n / 10) ++ ((48 + n % 10) ∷ []) in
    if ltb n 10 then (48 + n) ∷ [] otherwise r

unfoldable pub digits : ℕ → List ℕ
digits n = digits_within n n

-- A minus only below 0.
unfoldable pub signed_text : ℤ → List ℕ
signed_text (pos n) = digits n
signed_text (negsuc n) = bytes "-" ++ digits (suc n)

unfoldable pub bits_text : List ℕ → List ℕ
bits_text [] = []
bits_text (b ∷ bs) = (48 + b) ∷ bits_text bs

unfoldable pub wire_text : Wire → List ℕ
wire_text (Const b) = bytes "(k " ++ digits b ++ bytes ")"
wire_text (Node i) = bytes "(n " ++ digits i ++ bytes ")"

unfoldable pub limit_text : Limit → List ℕ
limit_text Unlimited = bytes "none"
limit_text (AtMost n) = digits n

unfoldable pub terms_text : List Term → List ℕ
terms_text [] = []
terms_text (t ∷ ts) = bytes " (" ++ signed_text t.coef ++ bytes " " ++ digits t.node ++ bytes ")" ++ terms_text ts

-- A weight of 1 is not written.
unfoldable pub weight_text : ℕ → List ℕ
weight_text w = let r = bytes " " ++ digits w in if eqb w 1 then [] otherwise r

unfoldable pub node_text : LutNode → List ℕ
node_text (Input n) = bytes "(in " ++ n.name ++ weight_text n.weight ++ bytes ")\n"
node_text (Linear c ts) = bytes "(lin " ++ signed_text c ++ terms_text ts ++ bytes ")\n"
node_text (Bootstrap i table) = bytes "(boot " ++ digits i ++ bytes " " ++ bits_text table ++ bytes ")\n"

unfoldable pub nodes_text : List LutNode → List ℕ
nodes_text [] = []
nodes_text (n ∷ ns) = node_text n ++ nodes_text ns

unfoldable pub output_text : Output → List ℕ
output_text o = bytes "(out " ++ o.name ++ bytes " " ++ wire_text o.wire ++ bytes ")\n"

unfoldable pub outputs_text : List Output → List ℕ
outputs_text [] = []
outputs_text (o ∷ os) = output_text o ++ outputs_text os

-- `(net P M NORM)`, the nodes, the outputs.
unfoldable pub network_text : Network → List ℕ
network_text w =
    bytes "(net " ++ digits w.p ++ bytes " " ++ digits w.m ++ bytes " " ++ limit_text w.norm ++ bytes ")\n"
    ++ nodes_text w.nodes
    ++ outputs_text w.outputs
