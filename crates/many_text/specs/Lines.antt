-- What the code says of a line of edition 2.
use Rattle.std.specs.Prelude.{◌≡◌, true, false, List, ℕ, min, length}
use Rattle.std.specs.Prelude as P
use Rattle.std.proofs.Math.Option.{Option, none, some}
use Rattle.laws.specs.Select.{any}
use Rattle.rules.specs.Builder.{table_limits}
use Rattle.rules.specs.Edition2.{Table, Line2, Plain, Many, line2, too_long, conditions2}
use Rattle.rules.specs.NetworkText.{NetworkLine, NetLine, NetPrefix, network_line}
use Rattle.text.specs.Judged.{lowest}
use Rattle.network_text.specs.Lines.{net_of}
use Rattle.many_text.specs.View.{tables_left}
use Rattle.many_text.specs.declared.line.Line.{Line}
use Rattle.many_text.specs.declared.line.Line.TheVariants as L

-- The number that a line is refused with, 0 where it is not.
unfoldable pub refusal2 : NetPrefix → Option Line2 → ℕ
refusal2 w none = 21
refusal2 w (some l) = lowest (conditions2 w l)

-- A line as the plain text has it.
unfoldable pub plain_of : Option NetworkLine → Option Line2
plain_of none = none
plain_of (some l) = some (Plain l)

-- A `many` line: its node, kept up to 65536, and its tables, of which there are some and none has over 32 bits.
pub record ManyRead (l : List ℕ) (i : ℕ) (ts : List Table) : Type 0 where
  pub node : ℕ
  pub line : line2 l ≡ some (Many node ts)
  pub cap : i ≡ min 65536 node
  pub some : length ts ≡ 0 → ⊥
  pub short : any too_long ts ≡ false

-- A line that is bad on its own is refused whatever stands before it.
abbrev pub LineRead : List ℕ → P.Option Line → Type 0
LineRead l P.None = (w : NetPrefix) → refusal2 w (line2 l) ≡ 21
LineRead l (P.Some (L.Net n)) = (line2 l ≡ some (Plain (NetLine (net_of n)))) × (table_limits n.p n.m ≡ true)
LineRead l (P.Some (L.Many i t)) = ManyRead l i (tables_left t)
LineRead l (P.Some L.Plain) = line2 l ≡ plain_of (network_line l)
