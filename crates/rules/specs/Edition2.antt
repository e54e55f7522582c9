-- Edition 2 of the network text (document 02, S-11): its forms, what is wrong with a line, how it is read; either edition told by how the text begins.
use Rattle.std.specs.Prelude.{Bool, ◌||◌, not, List, [], ◌∷◌, ◌++◌, map, ℕ, ◌+◌, ltb, eqb, length}
use Rattle.std.proofs.Math.Option.{Option}
use Rattle.laws.specs.Select.{any}
use Rattle.laws.specs.Test.{if◌then◌otherwise◌, is_some}
use Rattle.rules.specs.Form.{Reader, give, ◌>>=◌, ◌>>◌, ◌or◌, whole, many, word, number, bits, norm, in_line, out_line, lines, Condition, ◌when◌, Reading, read_lines}
use Rattle.rules.specs.Network.{LutNode, Input, Bootstrap, Network, node_at, member, boot_sources}
use Rattle.rules.specs.NetworkText.{Net, NetworkLine, NetLine, NodeLine, OutLine, NetPrefix, lin_line, started, ending, unknown, settings_of, fits_table, text_conditions, safety_conditions, with_network_line, network_ended, no_network, read_network, read_admitted}
use Rattle.rules.specs.Rotation.{rotatable, centre_of}

-- ---- The forms.

-- `(BITS CENTRE)`
pub record Table : Type 0 where
  pub bits : List ℕ
  pub centre : ℕ

-- A line as the plain text has it, or `(many ID (BITS CENTRE) ..)`.
pub data Line2 : Type 0 where
  Plain : NetworkLine → Line2
  Many : ℕ → List Table → Line2

-- `(net2 P M NORM)`
unfoldable pub net2_line : Reader Net
net2_line = do
  word "(net2 "
  p ← number
  word " "
  m ← number
  word " "
  l ← norm
  word ")\n"
  give (record { p = p; m = m; norm = l })

-- CENTRE is 0, 1 or 2.
unfoldable pub centre_digit : Reader ℕ
centre_digit = (word "0" >> give 0) or (word "1" >> give 1) or (word "2" >> give 2)

unfoldable pub table : Reader Table
table = do
  word "("
  b ← bits
  word " "
  c ← centre_digit
  word ")"
  give (record { bits = b; centre = c })

unfoldable pub many_line : Reader Line2
many_line = do
  word "(many "
  i ← number
  ts ← many (word " " >> table)
  word ")\n"
  give (Many i ts)

unfoldable pub line2 : List ℕ → Option Line2
line2 =
    whole
    ((net2_line >>= (λ n. give (Plain (NetLine n))))
    or (in_line >>= (λ n. give (Plain (NodeLine (Input n)))))
    or (lin_line >>= (λ n. give (Plain (NodeLine n))))
    or many_line
    or (out_line >>= (λ o. give (Plain (OutLine o)))))

-- ---- What can be wrong with a line, against the lines before it.

-- What can be wrong with a table on node x: over 32 bits (21), 23 and 24 as for `boot`, a centre that is not the builder's (38).
unfoldable pub too_long : Table → Bool
too_long t = ltb 32 (length t.bits)

unfoldable pub not_fitting : ℕ → LutNode → Table → Bool
not_fitting M x t = not (fits_table M x t.bits)

unfoldable pub not_turning : ℕ → Table → Bool
not_turning P t = not (rotatable P t.bits)

unfoldable pub other_centre : ℕ → Table → Bool
other_centre P t = not (eqb t.centre (centre_of P t.bits))

unfoldable pub text_conditions2 : NetPrefix → Line2 → List Condition
text_conditions2 w (Plain l) = text_conditions w l
text_conditions2 w (Many i ts) =
    (21 when not (started w))
    ∷ (21 when ending w)
    ∷ (21 when ltb 672 (length w.nodes + length ts))
    ∷ (21 when (eqb (length ts) 0 || any too_long ts))
    ∷ (22 when unknown w.nodes i)
    ∷ []

-- The lowest number over all tables. 39: the node has a `many` line already, all tables before are of such lines.
unfoldable pub safety_conditions2 : NetPrefix → Line2 → List Condition
safety_conditions2 w (Plain l) = safety_conditions w l
safety_conditions2 w (Many i ts) =
    (23 when any (not_fitting (settings_of w.net).m (node_at w.nodes i)) ts)
    ∷ (24 when any (not_turning (settings_of w.net).p) ts)
    ∷ (38 when any (other_centre (settings_of w.net).p) ts)
    ∷ (39 when member i (boot_sources w.nodes))
    ∷ []

-- The conditions 21 to 26, 38 and 39, lowest first.
unfoldable pub conditions2 : NetPrefix → Line2 → List Condition
conditions2 w l = text_conditions2 w l ++ safety_conditions2 w l

-- ---- What a good text says: the same as a plain one, a `many` line its tables in turn.

abbrev pub table_node : ℕ → Table → LutNode
table_node i t = Bootstrap i t.bits

unfoldable pub with_line2 : ℕ → NetPrefix → Line2 → NetPrefix
with_line2 k w (Plain l) = with_network_line k w l
with_line2 k w (Many i ts) = record { net = w.net; nodes = w.nodes ++ map (table_node i) ts; outputs = w.outputs }

-- What a run reads: 21 and 22 are judged.
unfoldable pub read_network2 : List ℕ → Reading Network
read_network2 text = read_lines line2 21 text_conditions2 with_line2 network_ended 1 no_network (lines text)

-- What admission reads.
unfoldable pub read_admitted2 : List ℕ → Reading Network
read_admitted2 text = read_lines line2 21 conditions2 with_line2 network_ended 1 no_network (lines text)

-- ---- Either edition, told by how the text begins.

unfoldable pub is_edition2 : List ℕ → Bool
is_edition2 text = is_some (word "(net2 " text)

unfoldable pub read_either : List ℕ → Reading Network
read_either text = if is_edition2 text then read_admitted2 text otherwise read_admitted text

-- The network run's reading, as a rule.
unfoldable pub read_run : List ℕ → Reading Network
read_run text = if is_edition2 text then read_network2 text otherwise read_network text
