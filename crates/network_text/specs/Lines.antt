-- What the code says of a line, and what of a line is good on its own.
use Rattle.std.specs.Prelude.{◌≡◌, List, [], ◌∷◌, ℕ, min, leb, length}
use Rattle.std.specs.Prelude as P
use Rattle.std.specs.Borrow.{Bor}
use Rattle.std.proofs.Math.Option.{Option, none, some}
use Rattle.laws.specs.Test.{if◌then◌otherwise◌}
use Rattle.rules.specs.Builder.{table_limits}
use Rattle.rules.specs.Form.{Piece, Reader, give, onward, ◌>>=◌, ◌>>◌, ◌or◌, word, number, norm, bits, in_line, out_line}
use Rattle.rules.specs.Network.{Term, LutNode, Input, Linear, Bootstrap}
use Rattle.rules.specs.NetworkText.{Net, NetworkLine, NetLine, NodeLine, OutLine, net_line, lin_line, boot_line, network_line, good_sum}
use Rattle.text.specs.Pieces.{piece_as}
use Rattle.text.specs.Name.{Named}
use Rattle.forms.specs.Forms.{given_of, output_of, cap_output, GoodGiven}
use Rattle.forms.specs.declared.Net as F
use Rattle.nodes.specs.Terms.{terms_in, GoodTerms}
use Rattle.network_text.specs.Table.{bits_of}
use Rattle.network_text.specs.declared.line.Line.{Line}
use Rattle.network_text.specs.declared.line.Line.TheVariants as L

abbrev pub net_of : F.Net → Net
net_of n = record { p = n.p; m = n.m; norm = n.norm }

abbrev pub net_line_of : F.Net → NetworkLine
net_line_of n = NetLine (net_of n)

-- The line that the code's answer stands for.
abbrev pub line_of : Line → NetworkLine
line_of (L.Net n) = NetLine (net_of n)
line_of (L.In g) = NodeLine (Input (given_of g))
line_of (L.Lin t) = NodeLine (Linear t.constant (terms_in t))
line_of (L.Boot i t) = NodeLine (Bootstrap i (bits_of t))
line_of (L.Out o) = OutLine (output_of o)

abbrev pub line_read : P.Option Line → Option NetworkLine
line_read P.None = none
line_read (P.Some l) = some (line_of l)

-- ---- The forms, behind the word that each begins with.

-- A line, of any length: `network_line` is one that is all of the bytes.
unfoldable pub line_form : Reader NetworkLine
line_form =
    (net_line >>= (λ n. give (NetLine n)))
    or (in_line >>= (λ n. give (NodeLine (Input n))))
    or (lin_line >>= (λ n. give (NodeLine n)))
    or (boot_line >>= (λ n. give (NodeLine n)))
    or (out_line >>= (λ o. give (OutLine o)))

-- `boot`
unfoldable pub boot_rest : Reader LutNode
boot_rest = do
  i ← number
  word " "
  b ← bits
  word ")\n"
  give (Bootstrap i b)

abbrev pub node_form : Option (Piece LutNode) → Option (Piece NetworkLine)
node_form o = onward o (λ n. give (NodeLine n))

-- `net`, and `net2` of edition 2
unfoldable pub net_rest : Reader Net
net_rest = do
  p ← number
  word " "
  m ← number
  word " "
  l ← norm
  word ")\n"
  give (record { p = p; m = m; norm = l })

abbrev pub net_form : Option (Piece Net) → Option (Piece NetworkLine)
net_form o = onward o (λ n. give (NetLine n))

-- ---- What 21 refuses whatever stands before the line is no good line; a node's number counts up to 65536, which is no network's node.

unfoldable pub cap_term : Term → Term
cap_term t = record { coef = t.coef; node = min 65536 t.node }

unfoldable pub cap_terms : List Term → List Term
cap_terms [] = []
cap_terms (t ∷ ts) = cap_term t ∷ cap_terms ts

unfoldable pub good_form : NetworkLine → Option NetworkLine
good_form (NetLine n) = if table_limits n.p n.m then some (NetLine n) otherwise none
good_form (NodeLine (Input n)) = some (NodeLine (Input n))
good_form (NodeLine (Linear c ts)) = if good_sum c ts then some (NodeLine (Linear c (cap_terms ts))) otherwise none
good_form (NodeLine (Bootstrap i table)) = if leb (length table) 32 then some (NodeLine (Bootstrap (min 65536 i) table)) otherwise none
good_form (OutLine o) = some (OutLine (cap_output o))

abbrev pub good_value : Option NetworkLine → List ℕ → Option (Piece NetworkLine)
good_value none x = none
good_value (some l) x = give l x

-- A good line at the front of some bytes.
unfoldable pub good_piece : Option (Piece NetworkLine) → Option (Piece NetworkLine)
good_piece none = none
good_piece (some t) = good_value (good_form t.value) t.rest

unfoldable pub good_line : Option NetworkLine → Option NetworkLine
good_line none = none
good_line (some l) = good_form l

-- ---- What the code knows of a line that it read.

-- Of a sum's terms, at most 11, CONST and COEF are within -31..31 and a node's number is below 65537.
abbrev pub Within : Line → Type 0
Within (L.Net n) = Unit {0}
Within (L.In g) = GoodGiven (given_of g)
Within (L.Lin t) = GoodTerms 65537 t
Within (L.Boot i t) = Unit {0}
Within (L.Out o) = Named o.name.now

abbrev pub ReadWithin : P.Option Line → Type 0
ReadWithin P.None = Unit {0}
ReadWithin (P.Some l) = Within l

abbrev pub FormWithin : P.Option (Line × Bor (List ℕ)) → Type 0
FormWithin P.None = Unit {0}
FormWithin (P.Some p) = Within p.0

-- The good line of what was read.
pub record IsForm (o : Option (Piece NetworkLine)) (r : P.Option (Line × Bor (List ℕ))) : Type 0 where
  pub same : piece_as line_of r ≡ good_piece o
  pub within : FormWithin r

-- The good line that the bytes are.
pub record LineRead (l : List ℕ) (r : P.Option Line) : Type 0 where
  pub same : line_read r ≡ good_line (network_line l)
  pub within : ReadWithin r
