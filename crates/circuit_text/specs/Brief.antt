-- A line as the code keeps it, which decides its conditions and, where it meets none, what it adds.
use Rattle.std.specs.Prelude.{◌≡◌, refl, true, false, ◌&&◌, ◌||◌, not, List, [], ◌∷◌, ℕ, suc, ◌*◌, ◌≤◌, leb, ltb, length}
use Rattle.std.proofs.Common.{sym, ap, ap₂, ◌∙◌, true≢false, arith, lt-ltb, leb-false, leb→le}
use Rattle.std.proofs.lemmas.Bool.{not-false}
use Rattle.std.proofs.Math.Option.{Option, none, some}
use Rattle.laws.specs.Test.{is_some, neither_left, neither_right, is_T, and_left, and_right}
use Rattle.rules.specs.declared.Settings.{Settings}
use Rattle.rules.specs.declared.Wire.{Wire}
use Rattle.rules.specs.declared.Wire.TheVariants.{Const, Node}
use Rattle.rules.specs.Builder.{table_limits}
use Rattle.rules.specs.Circuit.{Given, Output, given_names}
use Rattle.rules.specs.CircuitText.{CircuitLine, FbsLine, InLine, GateLine, OutLine, Prefix, in_limits, some?, listed, node_count, no_node, any_no_node, matching, conditions}
use Rattle.rules.specs.Form.{Piece, bits_from, Condition, ◌when◌}
use Rattle.text.specs.Cap.{cap_table, cap_ten, cap_small}
use Rattle.forms.specs.Wire.{cap_wire}
use Rattle.forms.specs.Forms.{given_of, output_of, cap_output}
use Rattle.text.specs.Judged.{lowest, unmet}
use Rattle.circuit_conditions.specs.declared.GateWires.{GateWires}
use Rattle.circuit_text.specs.declared.line.Line.{Line}
use Rattle.circuit_text.specs.declared.line.Line.TheVariants.{Fbs, In, Gate, Out}
use Rattle.circuit_text.specs.Settings.{cap_settings}
use Rattle.circuit_conditions.specs.Wires.{no_wires, with_wire, with_wires, wires_of, shape, cap_no_node, astray_is, shape_is, long_unmatched}

pub data Brief : Type 0 where
  FbsBrief : Settings → Brief
  InBrief : Given → Brief
  GateBrief : List ℕ → GateWires → Brief
  OutBrief : Output → Brief

-- A line after n nodes.
unfoldable pub brief : ℕ → CircuitLine → Brief
brief n (FbsLine s) = FbsBrief (cap_settings s)
brief n (InLine g) = InBrief g
brief n (GateLine b ws) = GateBrief b (with_wires n no_wires ws)
brief n (OutLine o) = OutBrief (cap_output o)

-- What the code's line stands for.
abbrev pub brief_of : Line → Brief
brief_of (Fbs f) = FbsBrief f
brief_of (In i) = InBrief (given_of i)
brief_of (Gate b v) = GateBrief (bits_from b.now) v
brief_of (Out o) = OutBrief (output_of o)

-- A line that was read after n nodes, as it is kept.
unfoldable pub briefed : ℕ → Option (Piece CircuitLine) → Option (Piece Brief)
briefed n none = none
briefed n (some p) = some (record { value = brief n p.value; rest = p.rest })

-- ---- The conditions.

unfoldable pub brief_conditions : Prefix → Brief → List Condition
brief_conditions c (FbsBrief s) = (2 when not (table_limits s.p s.m && (leb 1 s.t && leb s.t 10))) ∷ (4 when is_some c.settings) ∷ []
brief_conditions c (InBrief g) =
    (3 when leb 32 (length c.inputs))
    ∷ (4 when (not (is_some c.settings) || (ltb 0 (length c.gates) || ltb 0 (length c.outputs))))
    ∷ (5 when listed g.name (given_names c.inputs))
    ∷ []
brief_conditions c (GateBrief b v) =
    (3 when leb 96 (length c.gates))
    ∷ (4 when (not (is_some c.settings) || ltb 0 (length c.outputs)))
    ∷ (6 when v.astray)
    ∷ (7 when not (shape v.wires (length b)))
    ∷ []
brief_conditions c (OutBrief o) =
    (3 when leb 32 (length c.outputs))
    ∷ (4 when not (is_some c.settings))
    ∷ (6 when no_node (node_count c) o.wire)
    ∷ []

some_is : {A : Type 0} (l : List A) → ltb 0 (length l) ≡ some? l
unfolding some?
some_is [] = refl
some_is (x ∷ l) = lt-ltb 0 (suc (length l)) (omega arith)

cap_limits : (s : Settings) → (table_limits (cap_settings s).p (cap_settings s).m && (leb 1 (cap_settings s).t && leb (cap_settings s).t 10)) ≡ in_limits s
unfolding cap_settings in_limits
cap_limits s = rw (cap_table s.p s.m, cap_ten s.t)

pub brief_conditions_lem : (c : Prefix) (l : CircuitLine) → node_count c ≤ 65536 → brief_conditions c (brief (node_count c) l) ≡ conditions c l
unfolding brief_conditions brief conditions cap_output
brief_conditions_lem c (FbsLine s) h = rw (cap_limits s)
brief_conditions_lem c (InLine g) h = rw (some_is c.gates, some_is c.outputs)
brief_conditions_lem c (GateLine b ws) h = rw (some_is c.outputs, astray_is (node_count c) ws h, shape_is (node_count c) b ws)
brief_conditions_lem c (OutLine o) h = ap (λ t. (3 when leb 32 (length c.outputs)) ∷ (4 when not (is_some c.settings)) ∷ (6 when t) ∷ []) (cap_no_node (node_count c) o.wire h)

-- ---- A line that meets no condition is kept whole.

unfoldable pub told : Brief → CircuitLine
told (FbsBrief s) = FbsLine s
told (InBrief g) = InLine g
told (GateBrief b v) = GateLine b (wires_of v.wires)
told (OutBrief o) = OutLine o

cap_same : (n : ℕ) (w : Wire) → n ≤ 65536 → no_node n w ≡ false → cap_wire w ≡ w
unfolding cap_wire no_node
cap_same n (Const b) h e = refl
cap_same n (Node i) h e = ap Node (cap_small i (omega (arith, leb-false)))

limits_small : (s : Settings) → in_limits s ≡ true → cap_settings s ≡ s
unfolding in_limits table_limits cap_settings
limits_small s e =
    let all = is_T (in_limits s) e in
    let table = and_left (table_limits s.p s.m) (leb 1 s.t && leb s.t 10) all in
    let t = leb→le s.t 10 (and_right (leb 1 s.t) _ (and_right (table_limits s.p s.m) _ all)) in
    let m = leb→le s.m (2 * s.p) (and_right (leb 2 s.p && leb s.p 16 && leb s.p s.m) _ table) in
    let p = leb→le s.p 16 (and_right (leb 2 s.p) _ (and_left (leb 2 s.p && leb s.p 16) _ (and_left (leb 2 s.p && leb s.p 16 && leb s.p s.m) _ table))) in
    rw (cap_small s.p (omega arith), cap_small s.m (omega arith), cap_small s.t (omega arith))

gate_told : (n : ℕ) (b : List ℕ) (ws : List Wire) → n ≤ 65536 → any_no_node n ws ≡ false → matching b ws ≡ true → told (brief n (GateLine b ws)) ≡ GateLine b ws
unfolding told brief no_wires with_wires with_wire any_no_node matching
gate_told n b [] h a m = absurd (true≢false (sym m))
gate_told n b (u ∷ []) h a m = ap (λ x. GateLine b (x ∷ [])) (cap_same n u h (neither_left _ _ a))
gate_told n b (u ∷ v ∷ []) h a m = ap₂ (λ x y. GateLine b (x ∷ y ∷ [])) (cap_same n u h (neither_left _ _ a)) (cap_same n v h (neither_left (no_node n v) false (neither_right (no_node n u) (no_node n v || false) a)))
gate_told n b (u ∷ v ∷ w ∷ ws) h a m = absurd (true≢false (sym m ∙ long_unmatched b u v w ws))

pub brief_told : (c : Prefix) (l : CircuitLine) → node_count c ≤ 65536 → lowest (conditions c l) ≡ 0 → told (brief (node_count c) l) ≡ l
unfolding told brief conditions cap_output
brief_told c (FbsLine s) h e = ap FbsLine (limits_small s (not-false _ (unmet _ _ (omega arith) e).0))
brief_told c (InLine g) h e = refl
brief_told c (GateLine b ws) h e =
    let order = unmet _ _ (omega arith) (unmet _ _ (omega arith) e).1 in
    let nodes = unmet _ _ (omega arith) order.1 in
    gate_told (node_count c) b ws h nodes.0 (not-false _ (unmet _ _ (omega arith) nodes.1).0)
brief_told c (OutLine o) h e =
    let order = unmet _ _ (omega arith) (unmet _ _ (omega arith) e).1 in
    ap (λ w. OutLine (record { name = o.name; wire = w })) (cap_same (node_count c) o.wire h (unmet _ _ (omega arith) order.1).0)
