-- The converter between the editions of the network text (document 02, S-11): how edition 2 is written, and both ways.
use Rattle.std.specs.Prelude.{Bool, true, false, List, [], ◌∷◌, ◌++◌, map, ℕ, ltb, eqb, length}
use Rattle.laws.specs.Over.{over}
use Rattle.laws.specs.Test.{if◌then◌otherwise◌}
use Rattle.rules.specs.Circuit.{Output}
use Rattle.rules.specs.Edition2.{Table, Line2, Plain, Many, is_edition2, read_either}
use Rattle.rules.specs.Form.{bytes, Reading, Good, Refused}
use Rattle.rules.specs.Mapper.{and_then}
use Rattle.rules.specs.Network.{LutNode, Input, Linear, Bootstrap, Network}
use Rattle.rules.specs.NetworkText.{NetLine, NodeLine, OutLine}
use Rattle.rules.specs.Outcome.{written, refused, Outcome, outcome}
use Rattle.rules.specs.Regroup.{regrouped}
use Rattle.rules.specs.Rotation.{centre_of}
use Rattle.rules.specs.Writing.{digits, bits_text, limit_text, node_text, output_text, network_text}

-- ---- How edition 2 is written.

-- A table on node i before these lines: it joins a `many` line of that node.
unfoldable pub join_table : ℕ → Table → List Line2 → List Line2
join_table i t [] = Many i (t ∷ []) ∷ []
join_table i t (Plain l ∷ ls) = Many i (t ∷ []) ∷ Plain l ∷ ls
join_table i t (Many j ts ∷ ls) = if eqb i j then Many i (t ∷ ts) ∷ ls otherwise Many i (t ∷ []) ∷ Many j ts ∷ ls

unfoldable pub node_lines : ℕ → List LutNode → List Line2
node_lines P [] = []
node_lines P (Input n ∷ ns) = Plain (NodeLine (Input n)) ∷ node_lines P ns
node_lines P (Linear c ts ∷ ns) = Plain (NodeLine (Linear c ts)) ∷ node_lines P ns
node_lines P (Bootstrap i b ∷ ns) = join_table i (record { bits = b; centre = centre_of P b }) (node_lines P ns)

unfoldable pub lines_of : Network → List Line2
lines_of w =
    Plain (NetLine (record { p = w.p; m = w.m; norm = w.norm }))
    ∷ (node_lines w.p w.nodes ++ map (λ (o : Output). Plain (OutLine o)) w.outputs)

unfoldable pub tables_text : List Table → List ℕ
tables_text [] = []
tables_text (t ∷ ts) = bytes " (" ++ (bits_text t.bits ++ (bytes " " ++ (digits t.centre ++ (bytes ")" ++ tables_text ts))))

unfoldable pub line2_text : Line2 → List ℕ
line2_text (Plain (NetLine n)) = bytes "(net2 " ++ (digits n.p ++ (bytes " " ++ (digits n.m ++ (bytes " " ++ (limit_text n.norm ++ bytes ")\n")))))
line2_text (Plain (NodeLine x)) = node_text x
line2_text (Plain (OutLine o)) = output_text o
line2_text (Many i ts) = bytes "(many " ++ (digits i ++ (tables_text ts ++ bytes ")\n"))

unfoldable pub lines2_text : List Line2 → List ℕ
lines2_text [] = []
lines2_text (l ∷ ls) = line2_text l ++ lines2_text ls

-- Of a network whose tables on each node stand together.
unfoldable pub network_text2 : Network → List ℕ
network_text2 w = lines2_text (lines_of w)

-- ---- The converter.

-- To edition 2 the network is regrouped; back, each table is a `boot` in its place.
unfoldable pub other_edition : Bool → Network → List ℕ
other_edition true w = network_text w
other_edition false w = network_text2 (regrouped w)

unfoldable pub convert : List ℕ → Reading (List ℕ)
convert text = and_then (read_either text) (λ w. Good (other_edition (is_edition2 text) w))

-- The text over the buffer's front, later bytes kept; 11 where the buffer is too short. A refusal keeps the buffer.
unfoldable pub answer_text : List ℕ → Reading (List ℕ) → Outcome
answer_text buffer (Refused k line) = outcome (refused k line) buffer
answer_text buffer (Good text) = if ltb (length buffer) (length text) then outcome (refused 11 0) buffer otherwise outcome (written (length text)) (over text buffer)

-- The converter: a network's text in either edition, and the answer buffer as it was.
unfoldable pub converter : List ℕ → List ℕ → Outcome
converter text buffer = answer_text buffer (convert text)
