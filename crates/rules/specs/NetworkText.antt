-- The network's text: its forms, how it is written, what is wrong with a line (document 01, "The text forms", "Refused with").
use Rattle.std.specs.Prelude.{Bool, true, false, ◌&&◌, ◌||◌, not, List, [], ◌∷◌, ◌++◌, ℕ, leb, ltb, eqb, ℤ, pos, nat_abs, ◌+ℤ◌, length}
use Rattle.std.proofs.Math.Option.{Option, none, some}
use Rattle.std.specs.Int.Signed.{le_z}
use Rattle.laws.specs.Integer.{eq_z}
use Rattle.laws.specs.Test.{is_some}
use Rattle.rules.specs.declared.Limit.{Limit}
use Rattle.rules.specs.declared.Limit.TheVariants.{Unlimited, AtMost}
use Rattle.rules.specs.declared.Wire.{Wire}
use Rattle.rules.specs.declared.Wire.TheVariants.{Const, Node}
use Rattle.rules.specs.Builder.{table_limits}
use Rattle.rules.specs.Circuit.{Name, Output}
use Rattle.rules.specs.CircuitText.{listed, no_node}
use Rattle.rules.specs.Form.{Reader, give, ◌>>=◌, ◌>>◌, ◌or◌, whole, many, word, number, signed, bits, norm, in_line, out_line, lines, Condition, ◌when◌, Reading, Good, Refused, read_lines}
use Rattle.rules.specs.Network.{Term, LutNode, Input, Linear, Bootstrap, Network, node_at, least_of, greatest_of, node_norm, is_input, is_linear, count, member}
use Rattle.rules.specs.Rotation.{rotatable}

-- ---- The forms.

pub record Net : Type 0 where
  pub p : ℕ
  pub m : ℕ
  pub norm : Limit

pub data NetworkLine : Type 0 where
  NetLine : Net → NetworkLine
  NodeLine : LutNode → NetworkLine
  OutLine : Output → NetworkLine

-- `(net P M NORM)`
unfoldable pub net_line : Reader Net
net_line = do
  word "(net "
  p ← number
  word " "
  m ← number
  word " "
  l ← norm
  word ")\n"
  give (record { p = p; m = m; norm = l })

-- `(COEF ID)`
unfoldable pub term : Reader Term
term = do
  word "("
  c ← signed
  word " "
  i ← number
  word ")"
  give (record { coef = c; node = i })

-- `(lin CONST (COEF ID) ..)`
unfoldable pub lin_line : Reader LutNode
lin_line = do
  word "(lin "
  c ← signed
  ts ← many (word " " >> term)
  word ")\n"
  give (Linear c ts)

-- `(boot ID BITS)`
unfoldable pub boot_line : Reader LutNode
boot_line = do
  word "(boot "
  i ← number
  word " "
  b ← bits
  word ")\n"
  give (Bootstrap i b)

unfoldable pub network_line : List ℕ → Option NetworkLine
network_line =
    whole
    ((net_line >>= (λ n. give (NetLine n)))
    or (in_line >>= (λ n. give (NodeLine (Input n))))
    or (lin_line >>= (λ n. give (NodeLine n)))
    or (boot_line >>= (λ n. give (NodeLine n)))
    or (out_line >>= (λ o. give (OutLine o))))

-- ---- What can be wrong with a line, against the lines before it.

-- What the lines so far say.
pub record NetPrefix : Type 0 where
  pub net : Option Net
  pub nodes : List LutNode
  pub outputs : List Output

-- CONST and COEF are within -31..31.
unfoldable pub small : ℤ → Bool
small z = leb (nat_abs z) 31

unfoldable pub good_terms : List Term → Bool
good_terms [] = true
good_terms (t ∷ ts) = (small t.coef && not (eqb (nat_abs t.coef) 0)) && good_terms ts

unfoldable pub sources : List Term → List ℕ
sources [] = []
sources (t ∷ ts) = t.node ∷ sources ts

unfoldable pub all_different : List ℕ → Bool
all_different [] = true
all_different (i ∷ is) = not (member i is) && all_different is

-- 1 to 11 different nodes, COEF not 0, both within -31..31.
unfoldable pub good_sum : ℤ → List Term → Bool
good_sum c ts = (small c && good_terms ts) && ((leb 1 (length ts) && leb (length ts) 11) && all_different (sources ts))

unfoldable pub names : List LutNode → List Name
names [] = []
names (Input n ∷ ns) = n.name ∷ names ns
names (Linear c ts ∷ ns) = names ns
names (Bootstrap i table ∷ ns) = names ns

unfoldable pub all_inputs : List LutNode → Bool
all_inputs ns = eqb (count is_input ns) (length ns)

-- Not an earlier node.
unfoldable pub unknown : List LutNode → ℕ → Bool
unknown ns i = leb (length ns) i

-- Not an earlier node, or a `lin` on a `lin`.
unfoldable pub any_bad_source : List LutNode → List ℕ → Bool
any_bad_source ns [] = false
any_bad_source ns (i ∷ is) = (unknown ns i || is_linear (node_at ns i)) || any_bad_source ns is

unfoldable pub started : NetPrefix → Bool
started w = is_some w.net

unfoldable pub ending : NetPrefix → Bool
ending w = leb 1 (length w.outputs)

-- 21: settings; order; counts; form; unique input name. 22: no earlier node, or a `lin` on a `lin`.
unfoldable pub text_conditions : NetPrefix → NetworkLine → List Condition
text_conditions w (NetLine n) = (21 when not (table_limits n.p n.m)) ∷ (21 when started w) ∷ []
text_conditions w (NodeLine (Input n)) =
    (21 when not (started w))
    ∷ (21 when (ending w || not (all_inputs w.nodes)))
    ∷ (21 when leb 32 (length w.nodes))
    ∷ (21 when listed n.name (names w.nodes))
    ∷ []
text_conditions w (NodeLine (Linear c ts)) =
    (21 when not (started w))
    ∷ (21 when ending w)
    ∷ (21 when leb 672 (length w.nodes))
    ∷ (21 when not (good_sum c ts))
    ∷ (22 when any_bad_source w.nodes (sources ts))
    ∷ []
text_conditions w (NodeLine (Bootstrap i table)) =
    (21 when not (started w))
    ∷ (21 when ending w)
    ∷ (21 when leb 672 (length w.nodes))
    ∷ (21 when ltb 32 (length table))
    ∷ (22 when unknown w.nodes i)
    ∷ []
text_conditions w (OutLine o) =
    (21 when not (started w)) ∷ (21 when leb 32 (length w.outputs)) ∷ (22 when no_node (length w.nodes) o.wire) ∷ []

-- The period and the limits that the `net` line set.
unfoldable pub settings_of : Option Net → Net
settings_of none = record { p = 0; m = 0; norm = Unlimited }
settings_of (some n) = n

unfoldable pub over : Limit → ℕ → Bool
over Unlimited n = false
over (AtMost k) n = ltb k n

-- Bounds are 0 to the table's length - 1, and it is at most M.
unfoldable pub fits_table : ℕ → LutNode → List ℕ → Bool
fits_table M n table = (eq_z (least_of n) (pos 0) && eq_z (greatest_of n +ℤ pos 1) (pos (length table))) && leb (length table) M

-- Bounds are within 0..1.
unfoldable pub is_bit : LutNode → Bool
is_bit n = le_z (pos 0) (least_of n) && le_z (greatest_of n) (pos 1)

unfoldable pub no_bit : List LutNode → Wire → Bool
no_bit ns (Const b) = false
no_bit ns (Node i) = not (is_bit (node_at ns i))

-- 23: bounds not 0 to length - 1, or length over M. 24: no rotation gives the table. 25: norm over NORM. 26: an output `lin` outside 0..1.
unfoldable pub safety_conditions : NetPrefix → NetworkLine → List Condition
safety_conditions w (NetLine n) = []
safety_conditions w (NodeLine (Input n)) = []
safety_conditions w (NodeLine (Linear c ts)) = (25 when over (settings_of w.net).norm (node_norm w.nodes (Linear c ts))) ∷ []
safety_conditions w (NodeLine (Bootstrap i table)) =
    (23 when not (fits_table (settings_of w.net).m (node_at w.nodes i) table))
    ∷ (24 when not (rotatable (settings_of w.net).p table))
    ∷ []
safety_conditions w (OutLine o) = (26 when no_bit w.nodes o.wire) ∷ []

-- The listed conditions 21 to 26, lowest first.
unfoldable pub admission_conditions : NetPrefix → NetworkLine → List Condition
admission_conditions w l = text_conditions w l ++ safety_conditions w l

-- ---- What a good text says.

-- A line with no fault added to those before it.
unfoldable pub with_network_line : ℕ → NetPrefix → NetworkLine → NetPrefix
with_network_line i w (NetLine n) = record { net = some n; nodes = w.nodes; outputs = w.outputs }
with_network_line i w (NodeLine n) = record { net = w.net; nodes = w.nodes ++ (n ∷ []); outputs = w.outputs }
with_network_line i w (OutLine o) = record { net = w.net; nodes = w.nodes; outputs = w.outputs ++ (o ∷ []) }

-- At the text's end the `net` line must be there.
unfoldable pub with_net : ℕ → NetPrefix → Option Net → Reading Network
with_net i w none = Refused 21 i
with_net i w (some n) = Good (record { p = n.p; m = n.m; norm = n.norm; nodes = w.nodes; outputs = w.outputs })

unfoldable pub network_ended : ℕ → NetPrefix → Reading Network
network_ended i w = with_net i w w.net

unfoldable pub no_network : NetPrefix
no_network = record { net = none; nodes = []; outputs = [] }

-- What a run reads: 21 and 22 are judged.
unfoldable pub read_network : List ℕ → Reading Network
read_network text = read_lines network_line 21 text_conditions with_network_line network_ended 1 no_network (lines text)

-- What admission reads: 21 to 26 are judged.
unfoldable pub read_admitted : List ℕ → Reading Network
read_admitted text = read_lines network_line 21 admission_conditions with_network_line network_ended 1 no_network (lines text)
