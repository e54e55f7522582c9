-- A network whose tables on each node stand together, written in edition 2 and read by admission, is admitted and says the network (document 02, S-11).
use Rattle.std.specs.Prelude.{◌≡◌, List, [], ◌∷◌, ◌++◌, map, Bool, true, false, ℕ, eqb}
use Rattle.laws.specs.Test.{if◌then◌otherwise◌}
use Rattle.rules.specs.Circuit.{Output}
use Rattle.rules.specs.Converter.{join_table, node_lines, lines_of, network_text2}
use Rattle.rules.specs.Edition2.{Table, Line2, Plain, Many, read_admitted2}
use Rattle.rules.specs.Form.{Good, lines}
use Rattle.rules.specs.Network.{LutNode, Input, Linear, Bootstrap, Network}
use Rattle.rules.specs.NetworkText.{Net, names}
use Rattle.theorems.specs.Admissible.{NodesPass, OutputsPass, net_of, Admissible, out_passes, boot_passes}
use Rattle.theorems.specs.Centres.{centre_most}
use Rattle.theorems.specs.SoundCircuits.{GoodNames, SmallLimit}
use Rattle.mapped.specs.TextLines.{Readable}
use Rattle.mapped.specs.TextReadBack.{node_readable, good_first, good_later}
use Rattle.editions.specs.Together.{Grouped}
use Rattle.editions.specs.Lines2.{outs, lines_read}
use Rattle.editions.specs.NodeLines.{table_of, expand-lines, node-lines_pass}
use Rattle.editions.specs.Written2.{TableReads, LineReads, LinesRead, lines_are}

-- ---- Each line can be read back.

join_reads : (i : ℕ) (t : Table) (ls : List Line2) → TableReads t → LinesRead ls → LinesRead (join_table i t ls)
unfolding LinesRead LineReads join_table
join_reads i t [] r s = ((r, tt), tt)
join_reads i t (Plain l ∷ ls) r s = ((r, tt), s)
join_reads i t (Many j ts ∷ ls) r s = by (eqb i j)
  where
    by : (b : Bool) → LinesRead (if b then Many i (t ∷ ts) ∷ ls otherwise Many i (t ∷ []) ∷ Many j ts ∷ ls)
    by true = ((r, s.0), s.1)
    by false = ((r, tt), s)

nodes_read_back : (n : Net) (before ns : List LutNode) → NodesPass n before ns → GoodNames (names ns) → LinesRead (node_lines n.p ns)
unfolding NodesPass node_lines LinesRead LineReads Readable
nodes_read_back n before [] p g = tt
nodes_read_back n before (Input a ∷ ns) p g =
    (node_readable n before (Input a) p.0 (good_first (Input a) ns g), nodes_read_back n (before ++ (Input a ∷ [])) ns p.1 (good_later (Input a) ns g))
nodes_read_back n before (Linear c ts ∷ ns) p g = (tt, nodes_read_back n (before ++ (Linear c ts ∷ [])) ns p.1 (good_later (Linear c ts) ns g))
nodes_read_back n before (Bootstrap i b ∷ ns) p g =
    let r = node_readable n before (Bootstrap i b) p.0 (good_first (Bootstrap i b) ns g) in
    join_reads i (table_of n.p b) (node_lines n.p ns) (record { bits = r.0; some_bit = r.1; centre = centre_most n.p b r.0 (boot_passes n before i b p.0).turns })
    (nodes_read_back n (before ++ (Bootstrap i b ∷ [])) ns p.1 (good_later (Bootstrap i b) ns g))

outputs_read_back : (n : Net) (ns : List LutNode) (before os : List Output) → OutputsPass n ns before os → GoodNames (map (λ (o : Output). o.name) os) → LinesRead (outs os)
unfolding OutputsPass GoodNames LinesRead LineReads
outputs_read_back n ns before [] p g = tt
outputs_read_back n ns before (o ∷ os) p g = ((g.0, (out_passes n ns before o p.0).constant), outputs_read_back n ns (before ++ (o ∷ [])) os p.1 g.1)

reads_append : (a b : List Line2) → LinesRead a → LinesRead b → LinesRead (a ++ b)
unfolding LinesRead
reads_append [] b r s = s
reads_append (l ∷ a) b r s = (r.0, reads_append a b r.1 s)

-- ---- The text.

pub reads_back_2 : (w : Network) → Admissible w → Grouped w.nodes → SmallLimit w.norm → GoodNames (names w.nodes) → GoodNames (map (λ (o : Output). o.name) w.outputs)
    → read_admitted2 (network_text2 w) ≡ Good w
unfolding read_admitted2 network_text2 lines_of net_of LinesRead LineReads
reads_back_2 w a t s g h =
    lines_read w (node_lines w.p w.nodes) (lines (network_text2 w)) a (node-lines_pass (net_of w) w.nodes a.nodes t) (expand-lines w.p w.nodes)
    (lines_are (lines_of w) (s, reads_append (node_lines w.p w.nodes) (outs w.outputs) (nodes_read_back (net_of w) [] w.nodes a.nodes g) (outputs_read_back (net_of w) w.nodes [] w.outputs a.outputs h)))
