-- The mapper (document 01, "src/mapper.rs"; `Mapper::map` in the Rust): from a circuit to a network.
use Rattle.std.specs.Prelude.{Bool, true, false, ◌&&◌, ◌||◌, not, List, [], ◌∷◌, ◌++◌, map, ℕ, ◌+◌, ◌*◌, ltb, eqb, pos, negsuc, length, get_or, set, drop, take}
use Rattle.std.specs.Prelude as P
use Rattle.std.proofs.Math.Option.{Option, none, some}
use Rattle.laws.specs.Over.{over}
use Rattle.laws.specs.Select.{any}
use Rattle.laws.specs.Tabulate.{tabulate}
use Rattle.laws.specs.Test.{if◌then◌otherwise◌}
use Rattle.rules.specs.declared.Policy.{Policy}
use Rattle.rules.specs.declared.Policy.TheVariants.{Basic, Naive, Span}
use Rattle.rules.specs.declared.Refusal.{Refusal}
use Rattle.rules.specs.declared.Settings.{Settings}
use Rattle.rules.specs.declared.Wire.{Wire}
use Rattle.rules.specs.declared.Wire.TheVariants.{Const, Node}
use Rattle.rules.specs.Circuit.{Gate, Output, Circuit}
use Rattle.rules.specs.CircuitText.{read_circuit}
use Rattle.rules.specs.Composition.{union_support, all_equal, compose}
use Rattle.rules.specs.Cone.{Cone, constant, identity, Result, ok, err, ◌>>=◌, within_norm, validate_cone, less, cone_order_key}
use Rattle.rules.specs.Form.{Reading, Good, Refused}
use Rattle.rules.specs.Network.{LutNode, Input, Linear, Network, node_norm, largest}
use Rattle.rules.specs.Refusal.{reason_number}
use Rattle.rules.specs.Outcome.{Answer, written, refused, Outcome, outcome}
use Rattle.rules.specs.Store.{number_of, intern, Stored, bootstrap_cone, live, kept_from, renumbered_output}
use Rattle.rules.specs.Writing.{network_text}

-- ---- One gate.

-- What a gate gives: the store, its cone, and the cones that take the place of its first and second input's.
pub record Mapped : Type 0 where
  pub nodes : List LutNode
  pub cone : Cone
  pub first : Option Cone
  pub second : Option Cone

unfoldable pub unchanged : List LutNode → Cone → Result Mapped
unchanged nodes c = ok (record { nodes = nodes; cone = c; first = none; second = none })

-- map_unary_gate
unfoldable pub map_unary_gate : Settings → List LutNode → Cone → List ℕ → Result Mapped
map_unary_gate s nodes c gate =
    let truth = map (λ b. get_or gate b 0) c.truth in
    let r = validate_cone s nodes (record { support = c.support; coefficients = c.coefficients; truth = truth }) >>= unchanged nodes in
    if all_equal truth then unchanged nodes (constant (get_or truth 0 0)) otherwise r

-- One side of a binary gate: its cone, and whether it was bootstrapped here.
pub record Side : Type 0 where
  pub cone : Cone
  pub new : Bool

-- The store, the two sides, the gate's answers for them, and whether the sides have changed places.
pub record Sides : Type 0 where
  pub nodes : List LutNode
  pub left : Side
  pub right : Side
  pub gate : List ℕ
  pub switched : Bool

unfoldable pub sides : List LutNode → Cone → Cone → List ℕ → Sides
sides nodes left right gate =
    record {
      nodes = nodes;
      left = record { cone = left; new = false };
      right = record { cone = right; new = false };
      gate = gate;
      switched = false;
    }

-- switch_inputs: the gate's answers 1 and 2 are exchanged too.
unfoldable pub switch_inputs : Sides → Sides
switch_inputs w =
    record {
      nodes = w.nodes;
      left = w.right;
      right = w.left;
      gate = get_or w.gate 0 0 ∷ get_or w.gate 2 0 ∷ get_or w.gate 1 0 ∷ get_or w.gate 3 0 ∷ [];
      switched = not w.switched;
    }

unfoldable pub bootstrap_left : Settings → Sides → Sides
bootstrap_left s w =
    let b = bootstrap_cone s w.nodes w.left.cone in
    record { nodes = b.nodes; left = record { cone = b.cone; new = true }; right = w.right; gate = w.gate; switched = w.switched }

unfoldable pub bootstrap_right : Settings → Sides → Sides
bootstrap_right s w =
    let b = bootstrap_cone s w.nodes w.right.cone in
    record { nodes = b.nodes; left = w.left; right = record { cone = b.cone; new = true }; gate = w.gate; switched = w.switched }

-- The larger side (span, then norm) comes first.
unfoldable pub larger_first : Sides → Sides
larger_first w = if less (cone_order_key w.nodes w.left.cone) (cone_order_key w.nodes w.right.cone) then switch_inputs w otherwise w

-- The two sides have more sources together than T.
unfoldable pub over_limit : Settings → Sides → Bool
over_limit s w = ltb s.t (length (union_support w.left.cone.support w.right.cone.support))

-- Then the left side is bootstrapped and the sides are switched, and the other one is bootstrapped if they are still too many.
unfoldable pub limit_second : Settings → Sides → Sides
limit_second s w = if over_limit s w then bootstrap_left s w otherwise w

unfoldable pub limit_sources : Settings → Sides → Sides
limit_sources s w = if over_limit s w then limit_second s (switch_inputs (bootstrap_left s w)) otherwise w

-- One of map_binary_gate's three attempts.
unfoldable pub attempt : Settings → Sides → Option Cone
attempt s w = compose s w.nodes w.left.cone w.right.cone w.gate

-- updates: a bootstrapped side, and only such a side, replaces its wire's cone.
unfoldable pub update : Side → Option Cone
update x = if x.new then some x.cone otherwise none

unfoldable pub mapped : Sides → Cone → Mapped
mapped w c =
    record {
      nodes = w.nodes;
      cone = c;
      first = update (if w.switched then w.right otherwise w.left);
      second = update (if w.switched then w.left otherwise w.right);
    }

-- The attempt's answer, or else what comes next.
unfoldable pub or_else : Sides → Option Cone → Result Mapped → Result Mapped
or_else w none next = next
or_else w (some c) next = ok (mapped w c)

unfoldable pub third_attempt : Settings → Sides → Result Mapped
third_attempt s w = let v = bootstrap_right s w in or_else v (attempt s v) (err 9)

unfoldable pub second_attempt : Settings → Sides → Result Mapped
second_attempt s w = let v = bootstrap_left s w in or_else v (attempt s v) (third_attempt s v)

-- map_binary_gate
unfoldable pub map_binary_gate : Settings → List LutNode → Cone → Cone → List ℕ → Result Mapped
map_binary_gate s nodes left right gate = let w = limit_sources s (larger_first (sides nodes left right gate)) in or_else w (attempt s w) (second_attempt s w)

-- constant_value
unfoldable pub is_constant : Cone → Bool
is_constant c = eqb (length c.support) 0

unfoldable pub constant_value : Cone → ℕ
constant_value c = get_or c.truth 0 0

-- map_gate: a constant side makes the gate unary. The reader refuses other counts of wires (7).
unfoldable pub map_gate : Settings → List LutNode → List Cone → List ℕ → Result Mapped
map_gate s nodes [] gate = err 7
map_gate s nodes (c ∷ []) gate = map_unary_gate s nodes c gate
map_gate s nodes (left ∷ right ∷ []) gate =
    if is_constant left then map_unary_gate s nodes right (take 2 (drop (2 * constant_value left) gate))
    otherwise if is_constant right then map_unary_gate s nodes left (get_or gate (constant_value right) 0 ∷ get_or gate (2 + constant_value right) 0 ∷ [])
    otherwise map_binary_gate s nodes left right gate
map_gate s nodes (a ∷ b ∷ c ∷ cs) gate = err 7

-- ---- All gates in turn.

-- The store, and the cone of each node of the circuit so far: environment and wires in the Rust.
pub record State : Type 0 where
  pub nodes : List LutNode
  pub cones : List Cone

unfoldable pub cone_at : List Cone → Wire → Cone
cone_at cones (Const b) = constant b
cone_at cones (Node i) = get_or cones i (constant 0)

unfoldable pub replace : Wire → Option Cone → List Cone → List Cone
replace (Const b) c cones = cones
replace (Node i) none cones = cones
replace (Node i) (some c) cones = set cones i c

-- The wires of the gate with the cones that were bootstrapped.
unfoldable pub replaced : List Wire → Mapped → List Cone → List Cone
replaced ws m cones = replace (get_or ws 1 (Const 0)) m.second (replace (get_or ws 0 (Const 0)) m.first cones)

unfoldable pub is_basic : Policy → Bool
is_basic Basic = true
is_basic Naive = false
is_basic Span = false

unfoldable pub leads_to : ℕ → Wire → Bool
leads_to i (Const b) = false
leads_to i (Node j) = eqb i j

-- Basic bootstraps every gate; with one table a sum, the gates that an output names are.
unfoldable pub is_forced : Settings → List Output → ℕ → Bool
is_forced s outputs i = is_basic s.policy || (not s.many && any (λ (o : Output). leads_to i o.wire) outputs)

unfoldable pub forced : Settings → Bool → Mapped → Stored
forced s f m = if f then bootstrap_cone s m.nodes m.cone otherwise record { nodes = m.nodes; cone = m.cone }

-- The loop of map_once over the gates: one gate.
unfoldable pub map_next : Settings → List Output → State → Gate → Result State
map_next s outputs st g = do
  m ← map_gate s st.nodes (map (cone_at st.cones) g.wires) g.bits
  let b = forced s (is_forced s outputs (length st.cones)) m in
      ok (record { nodes = b.nodes; cones = replaced g.wires m st.cones ++ (b.cone ∷ []) })

-- A refusal gets its line.
unfoldable pub at_line : {A : Type 0} → ℕ → Result A → Reading A
at_line line (ok a) = Good a
at_line line (err k) = Refused k line

unfoldable pub and_then : {A B : Type 0} → Reading A → (A → Reading B) → Reading B
and_then (Good a) next = next a
and_then (Refused k line) next = Refused k line

unfoldable pub map_gates : Settings → List Output → State → List Gate → Reading State
map_gates s outputs st [] = Good st
map_gates s outputs st (g ∷ gs) = and_then (at_line g.line (map_next s outputs st g)) (λ r. map_gates s outputs r gs)

-- ---- Outputs.

pub record Signal : Type 0 where
  pub nodes : List LutNode
  pub wire : Wire

-- A cone of no source or one source as a wire: NOT is 1 less the node.
unfoldable pub wire_of : List LutNode → List ℕ → List ℕ → Signal
wire_of nodes [] truth = record { nodes = nodes; wire = Const (get_or truth 0 0) }
wire_of nodes (n ∷ ns) truth =
    let negation = Linear (pos 1) (record { coef = negsuc 0; node = n } ∷ []) in
    let with_negation = intern negation nodes in
    let r : Signal = record { nodes = with_negation; wire = Node (number_of negation with_negation) } in
    if eqb (get_or truth 0 0) 0 then record { nodes = nodes; wire = Node n } otherwise r

-- output_signal
unfoldable pub output_signal : Settings → List LutNode → Cone → Signal
output_signal s nodes c = let b = bootstrap_cone s nodes c in wire_of b.nodes b.cone.support b.cone.truth

-- The store, and the outputs so far.
pub record Outputs : Type 0 where
  pub nodes : List LutNode
  pub outputs : List Output

unfoldable pub map_outputs : Settings → List Cone → Outputs → List Output → Outputs
map_outputs s cones done [] = done
map_outputs s cones done (o ∷ os) =
    let r = output_signal s done.nodes (cone_at cones o.wire) in
    map_outputs s cones (record { nodes = r.nodes; outputs = done.outputs ++ (record { name = o.name; wire = r.wire } ∷ []) }) os

-- ---- The circuit.

-- map_basic: Basic works with P = 2, and M = 2 if M equals P, else 4.
unfoldable pub used_settings : Settings → Settings
used_settings s =
    if is_basic s.policy then record { p = 2; m = if eqb s.m s.p then 2 otherwise 4; t = s.t; norm = s.norm; policy = s.policy; many = s.many }
    otherwise s

-- prune
unfoldable pub pruned : Settings → Outputs → Network
pruned s done =
    let kept = live done.nodes done.outputs in
    record
    { p = s.p; m = s.m; norm = s.norm; nodes = kept_from kept 0 done.nodes; outputs = map (renumbered_output kept) done.outputs }

-- map: Basic's last check is on the largest norm.
unfoldable pub checked : Settings → Network → Reading Network
checked s w =
    if is_basic s.policy && not (within_norm s (largest (node_norm w.nodes) w.nodes)) then Refused 8 0
    otherwise Good w

-- map_once: the inputs are the first nodes, and each is its own cone.
unfoldable pub start : Circuit → State
start c = record { nodes = map Input c.inputs; cones = tabulate (length c.inputs) identity }

unfoldable pub finish : Settings → List Output → State → Reading Network
finish s outputs st = checked s (pruned s (map_outputs s st.cones (record { nodes = st.nodes; outputs = [] }) outputs))

unfoldable pub map_with : Settings → Circuit → Reading Network
map_with s c = and_then (map_gates s c.outputs (start c) c.gates) (finish s c.outputs)

unfoldable pub map_circuit : Circuit → Reading Network
map_circuit c = map_with (used_settings c.settings) c

-- ---- From text to text.

-- The network's text over the buffer's front, later bytes kept; 11 where the buffer is too short. A refusal keeps the buffer.
unfoldable pub answer_with : List ℕ → Reading Network → Outcome
answer_with buffer (Refused k line) = outcome (refused k line) buffer
answer_with buffer (Good w) =
    let text = network_text w in
    if ltb (length buffer) (length text) then outcome (refused 11 0) buffer otherwise outcome (written (length text)) (over text buffer)

-- The mapper: a circuit's text, and the answer buffer as it was.
unfoldable pub mapper : List ℕ → List ℕ → Outcome
mapper text buffer = answer_with buffer (and_then (read_circuit text) map_circuit)

-- Document 01's number and values for each reply.
abbrev pub map_reply : P.Result ℕ Refusal → Answer
map_reply (P.Ok n) = written n
map_reply (P.Err r) = refused (reason_number r.reason) r.line
