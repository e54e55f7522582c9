-- The circuit's text: its forms, what is wrong with a line, and what a good text says (document 01, "The text forms" and "Refused with").
use Rattle.std.specs.Prelude.{Bool, true, false, ◌&&◌, ◌||◌, not, List, [], ◌∷◌, ◌++◌, ℕ, ◌+◌, leb, eqb, length}
use Rattle.std.proofs.Math.Option.{Option, none, some}
use Rattle.laws.specs.Test.{is_some}
use Rattle.rules.specs.declared.Policy.{Policy}
use Rattle.rules.specs.declared.Policy.TheVariants.{Basic, Naive, Span}
use Rattle.rules.specs.declared.Settings.{Settings}
use Rattle.rules.specs.declared.Wire.{Wire}
use Rattle.rules.specs.declared.Wire.TheVariants.{Const, Node}
use Rattle.rules.specs.Builder.{table_limits}
use Rattle.rules.specs.Circuit.{Name, Given, given_names, Gate, Output, Circuit}
use Rattle.rules.specs.Form.{Reader, give, ◌>>=◌, ◌>>◌, ◌or◌, whole, many, word, number, name, bits, wire, norm, in_line, out_line, lines, Condition, ◌when◌, Reading, Good, Refused, read_lines}

-- ---- The forms.

-- A gate's name doesn't matter.
pub data CircuitLine : Type 0 where
  FbsLine : Settings → CircuitLine
  InLine : Given → CircuitLine
  GateLine : List ℕ → List Wire → CircuitLine
  OutLine : Output → CircuitLine

unfoldable pub policy : Reader Policy
policy = (word "basic" >> give Basic) or (word "naive" >> give Naive) or (word "span" >> give Span)

unfoldable pub tables : Reader Bool
tables = (word "one" >> give false) or (word "many" >> give true)

-- `(fbs P M T NORM POLICY TABLES)`
unfoldable pub fbs_line : Reader Settings
fbs_line = do
  word "(fbs "
  p ← number
  word " "
  m ← number
  word " "
  t ← number
  word " "
  l ← norm
  word " "
  q ← policy
  word " "
  b ← tables
  word ")\n"
  give (record { p = p; m = m; t = t; norm = l; policy = q; many = b })

-- `(gate NAME BITS WIRE ..)`
unfoldable pub gate_line : Reader CircuitLine
gate_line = do
  word "(gate "
  name
  word " "
  b ← bits
  ws ← many (word " " >> wire)
  word ")\n"
  give (GateLine b ws)

unfoldable pub circuit_line : List ℕ → Option CircuitLine
circuit_line =
    whole
    ((fbs_line >>= (λ s. give (FbsLine s))) or (in_line >>= (λ n. give (InLine n))) or gate_line or (out_line >>= (λ o. give (OutLine o))))

-- ---- What can be wrong with a line, against the lines before it.

-- What the lines so far say.
pub record Prefix : Type 0 where
  pub settings : Option Settings
  pub inputs : List Given
  pub gates : List Gate
  pub outputs : List Output

-- P and M as the builder has them, T from 1 to 10.
unfoldable pub in_limits : Settings → Bool
in_limits s = table_limits s.p s.m && (leb 1 s.t && leb s.t 10)

unfoldable pub some? : {A : Type 0} → List A → Bool
some? [] = false
some? (x ∷ l) = true

unfoldable pub same_name : Name → Name → Bool
same_name [] [] = true
same_name [] (b ∷ t) = false
same_name (a ∷ s) [] = false
same_name (a ∷ s) (b ∷ t) = eqb a b && same_name s t

unfoldable pub listed : Name → List Name → Bool
listed n [] = false
listed n (m ∷ ms) = same_name n m || listed n ms

-- Inputs and gates are numbered in turn; a wire goes to one of those before it.
unfoldable pub node_count : Prefix → ℕ
node_count c = length c.inputs + length c.gates

unfoldable pub no_node : ℕ → Wire → Bool
no_node n (Const b) = false
no_node n (Node i) = leb n i

unfoldable pub any_no_node : ℕ → List Wire → Bool
any_no_node n [] = false
any_no_node n (w ∷ ws) = no_node n w || any_no_node n ws

-- One wire and two bits, or two wires and four.
unfoldable pub matching : List ℕ → List Wire → Bool
matching b ws = (eqb (length ws) 1 && eqb (length b) 2) || (eqb (length ws) 2 && eqb (length b) 4)

-- Conditions 2 to 7 of a form, lowest first.
unfoldable pub conditions : Prefix → CircuitLine → List Condition
conditions c (FbsLine s) = (2 when not (in_limits s)) ∷ (4 when is_some c.settings) ∷ []
conditions c (InLine n) =
    (3 when leb 32 (length c.inputs))
    ∷ (4 when (not (is_some c.settings) || (some? c.gates || some? c.outputs)))
    ∷ (5 when listed n.name (given_names c.inputs))
    ∷ []
conditions c (GateLine b ws) =
    (3 when leb 96 (length c.gates))
    ∷ (4 when (not (is_some c.settings) || some? c.outputs))
    ∷ (6 when any_no_node (node_count c) ws)
    ∷ (7 when not (matching b ws))
    ∷ []
conditions c (OutLine o) =
    (3 when leb 32 (length c.outputs))
    ∷ (4 when not (is_some c.settings))
    ∷ (6 when no_node (node_count c) o.wire)
    ∷ []

-- ---- What a good text says.

-- A line with no fault, the i-th, added to those before it.
unfoldable pub with_line : ℕ → Prefix → CircuitLine → Prefix
with_line i c (FbsLine s) = record { settings = some s; inputs = c.inputs; gates = c.gates; outputs = c.outputs }
with_line i c (InLine n) = record { settings = c.settings; inputs = c.inputs ++ (n ∷ []); gates = c.gates; outputs = c.outputs }
with_line i c (GateLine b ws) =
    record {
      settings = c.settings;
      inputs = c.inputs;
      gates = c.gates ++ (record { bits = b; wires = ws; line = i } ∷ []);
      outputs = c.outputs;
    }
with_line i c (OutLine o) = record { settings = c.settings; inputs = c.inputs; gates = c.gates; outputs = c.outputs ++ (o ∷ []) }

-- At the text's end the `fbs` line must be there.
unfoldable pub with_settings : ℕ → Prefix → Option Settings → Reading Circuit
with_settings i c none = Refused 4 i
with_settings i c (some s) = Good (record { settings = s; inputs = c.inputs; gates = c.gates; outputs = c.outputs })

unfoldable pub ended : ℕ → Prefix → Reading Circuit
ended i c = with_settings i c c.settings

unfoldable pub nothing : Prefix
nothing = record { settings = none; inputs = []; gates = []; outputs = [] }

-- Condition 1 is that a line is no form.
unfoldable pub read_circuit : List ℕ → Reading Circuit
read_circuit text = read_lines circuit_line 1 conditions with_line ended 1 nothing (lines text)
