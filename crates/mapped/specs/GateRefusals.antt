-- Why a gate is refused: a cone's norm is over the limit (8), or two cones of at most one source each are not composed (9); at the line of the first that is refused.
use Rattle.std.specs.Prelude.{◌≡◌, Bool, T, length, take, drop}
use Rattle.std.proofs.Math.Path.{refl}
use Rattle.std.proofs.Common.{sym, ap, ◌∙◌, arith, ne_eqb}
use Rattle.std.proofs.Math.Bool.{true, false}
use Rattle.std.proofs.lemmas.Bool.{false≢true}
use mathlib.Core.List.{List, [], ◌∷◌, map, ◌++◌}
use Rattle.std.proofs.Math.Logic.{⊎_elim}
use Rattle.std.proofs.Math.Option.{Option, none, some}
use Prim.Native.Nat.{ℕ, ◌+◌, ◌*◌, ◌≤◌, ◌<◌, suc}
use Rattle.std.proofs.Math.ListN.{get_or}
use Rattle.laws.specs.Test.{if◌then◌otherwise◌, zero≢one}
use Rattle.rules.specs.declared.Settings.{Settings}
use Rattle.rules.specs.declared.Wire.{Wire}
use Rattle.rules.specs.Circuit.{Given, Gate, Output, wire_bit}
use Rattle.rules.specs.CircuitText.{in_limits, any_no_node, matching}
use Rattle.rules.specs.Composition.{compose}
use Rattle.rules.specs.Cone.{Cone, Result, ok, err, norm2, within_norm}
use Rattle.rules.specs.Form.{Good, Refused}
use Rattle.rules.specs.Mapper.{Mapped, map_unary_gate, Sides, sides, bootstrap_left, bootstrap_right, larger_first, limit_sources, attempt, or_else, third_attempt, second_attempt, map_binary_gate, is_constant, constant_value, map_gate, State, cone_at, map_next, at_line, and_then, map_gates}
use Rattle.rules.specs.Network.{LutNode}
use Rattle.rules.specs.Runs.{all_bits}
use Rattle.theorems.specs.Readings.{refused_same}
use Rattle.theorems.specs.Results.{err_not, err_same, err_then, good_same, good_then}
use Rattle.theorems.specs.SoundCircuits.{WireBits, SoundGate}
use Rattle.mapped.specs.Cones.{Standing}
use Rattle.mapped.specs.ConeUnary.{unary_refusal}
use Rattle.mapped.specs.Store.{net_for, Store}
use Rattle.mapped.specs.GateMeaning.{Means}
use Rattle.mapped.specs.GateSides.{Sided, left_booted, right_booted, kept-left, kept-right, kept_limited, kept-first}
use Rattle.mapped.specs.Gates.{Cones, wire_means}
use Rattle.mapped.specs.KnownGates.{Known, four_answers, wire_in}

-- Over the nodes of a store that begins with the inputs.
pub data Refusal (s : Settings) (inputs : List Given) (k : ℕ) : Type 0 where
  over-norm : k ≡ 8 → (nodes : List LutNode) → Store (net_for s) inputs nodes → (c : Cone) → Standing s nodes c → within_norm s (norm2 nodes c) ≡ false → Refusal s inputs k
  uncomposed : k ≡ 9 → (nodes : List LutNode) → Store (net_for s) inputs nodes → (left right : Cone) (gate : List ℕ) → Standing s nodes left → Standing s nodes right
      → length left.support ≤ 1 → length right.support ≤ 1 → T (all_bits gate) → compose s nodes left right gate ≡ none → Refusal s inputs k

pub refusal-number : (s : Settings) (inputs : List Given) (k : ℕ) → Refusal s inputs k → (8 ≤ k) × (k ≤ 9)
refusal-number s inputs k (over-norm e nodes store c st n) = (omega arith, omega arith)
refusal-number s inputs k (uncomposed e nodes store left right gate sl sr l r b n) = (omega arith, omega arith)

-- ---- A binary gate.

module _ (s : Settings) (inputs : List Given) (before : List LutNode) (f g h : List ℕ → ℕ) (limits : in_limits s ≡ true) (room : length before + 6 ≤ 672) where
  abbrev Kept : Sides → Type 0
  Kept w = Sided s inputs before f g h w

  -- where an attempt is refused, the sides are not composed, and what comes next is refused
  attempt_refused : (w : Sides) (next : Result Mapped) (k : ℕ) → or_else w (attempt s w) next ≡ err k
      → (compose s w.nodes w.left.cone w.right.cone w.gate ≡ none) × (next ≡ err k)
  unfolding attempt or_else
  attempt_refused w next k = by (compose s w.nodes w.left.cone w.right.cone w.gate) refl
    where
      by : (o : Option Cone) → compose s w.nodes w.left.cone w.right.cone w.gate ≡ o → or_else w o next ≡ err k
          → (compose s w.nodes w.left.cone w.right.cone w.gate ≡ none) × (next ≡ err k)
      by none c e = (c, e)
      by (some d) c e = absurd (err_not k _ (sym e))

  third_refused : (w : Sides) (k : ℕ) → Kept w → length w.left.cone.support ≤ 1 → third_attempt s w ≡ err k → Refusal s inputs k
  unfolding third_attempt
  third_refused w k q few e =
      let v = bootstrap_right s w in
      let one = right_booted s w in
      let p = kept-right s inputs before f g h limits room w q in
      let r = attempt_refused v (err 9) k e in
      uncomposed (sym (err_same 9 k r.1)) v.nodes p.store v.left.cone v.right.cone v.gate p.left.standing p.right.standing
      (rw one.1 few) one.0 p.answer_bits r.0

  second_refused : (w : Sides) (k : ℕ) → Kept w → second_attempt s w ≡ err k → Refusal s inputs k
  unfolding second_attempt
  second_refused w k q e =
      let v = bootstrap_left s w in
      third_refused v k (kept-left s inputs before f g h limits room w q) (left_booted s w).0 (attempt_refused v (third_attempt s v) k e).1

  binary_refused : (left right : Cone) (gate : List ℕ) (k : ℕ) → Kept (larger_first (sides before left right gate)) → map_binary_gate s before left right gate ≡ err k → Refusal s inputs k
  unfolding map_binary_gate
  binary_refused left right gate k q e =
      let first = larger_first (sides before left right gate) in
      let w = limit_sources s first in
      second_refused w k (kept_limited s inputs before f g h limits room first q) (attempt_refused w (second_attempt s w) k e).1

-- ---- A gate of the circuit.

not_three : (gate : List ℕ) (u v w : Wire) (ws : List Wire) → matching gate (u ∷ v ∷ w ∷ ws) ≡ true → ⊥
unfolding matching
not_three gate u v w ws e =
    let n = length ws in
    false≢true (rw (ne_eqb (suc (suc (suc n))) 1 (omega arith), ne_eqb (suc (suc (suc n))) 2 (omega arith)) at e)

module _ (s : Settings) (inputs : List Given) (limits : in_limits s ≡ true) where
  unary_refused : (nodes : List LutNode) → Store (net_for s) inputs nodes → (c : Cone) (gate : List ℕ) (k : ℕ) → Standing s nodes c → map_unary_gate s nodes c gate ≡ err k → Refusal s inputs k
  unary_refused nodes store c gate k st e = let r = unary_refusal s nodes c gate k e in over-norm r.0 nodes store c st r.1

  module _ (nodes : List LutNode) (store : Store (net_for s) inputs nodes) (room : length nodes + 6 ≤ 672) where
    two_refused : (left right : Cone) (gate : List ℕ) (k : ℕ) (f g : List ℕ → ℕ) → Means s inputs nodes left f → Means s inputs nodes right g
        → length gate ≡ 4 → T (all_bits gate) → map_gate s nodes (left ∷ right ∷ []) gate ≡ err k → Refusal s inputs k
    unfolding map_gate
    two_refused left right gate k f g a b four good = by (is_constant left) (is_constant right)
      where
        by : (t u : Bool) → (if t then map_unary_gate s nodes right (take 2 (drop (2 * constant_value left) gate))
            otherwise if u then map_unary_gate s nodes left (get_or gate (constant_value right) 0 ∷ get_or gate (2 + constant_value right) 0 ∷ [])
            otherwise map_binary_gate s nodes left right gate) ≡ err k → Refusal s inputs k
        by true u e = unary_refused nodes store right _ k b.standing e
        by false true e = unary_refused nodes store left _ k a.standing e
        by false false e =
            let h : List ℕ → ℕ = λ bits. get_or gate (2 * f bits + g bits) 0 in
            binary_refused s inputs nodes f g h limits room left right gate k (kept-first s inputs nodes f g h limits room left right gate store a b four good (λ bits q. refl)) e

    wires_refused : (cones : List Cone) (F : List ℕ → List ℕ) (n : ℕ) → Cones s inputs nodes cones F n → (ws : List Wire) (gate : List ℕ) (k : ℕ)
        → any_no_node n ws ≡ false → WireBits ws → T (all_bits gate) → matching gate ws ≡ true → map_gate s nodes (map (cone_at cones) ws) gate ≡ err k → Refusal s inputs k
    unfolding WireBits
    wires_refused cones F n known [] gate k w c good q e = absurd (unfold matching in (zero≢one (cc)))
    wires_refused cones F n known (v ∷ []) gate k w c good q e =
        unary_refused nodes store (cone_at cones v) gate k (wire_means s inputs nodes store F n cones v known (wire_in n (v ∷ []) 0 w) c.0).standing (unfold map_gate in e)
    wires_refused cones F n known (v ∷ u ∷ []) gate k w c good q e =
        two_refused (cone_at cones v) (cone_at cones u) gate k (λ bits. wire_bit (F bits) v) (λ bits. wire_bit (F bits) u)
        (wire_means s inputs nodes store F n cones v known (wire_in n (v ∷ u ∷ []) 0 w) c.0)
        (wire_means s inputs nodes store F n cones u known (wire_in n (v ∷ u ∷ []) 1 w) c.1.0) (four_answers gate v u q) good e
    wires_refused cones F n known (v ∷ u ∷ x ∷ ws) gate k w c good q e = absurd (not_three gate v u x ws q)

  pub next_refused : (outputs : List Output) (st : State) (F : List ℕ → List ℕ) (k n : ℕ) (g : Gate) (j : ℕ) → Known s inputs st F k n → SoundGate n g
      → length inputs ≤ 32 → k < 96 → map_next s outputs st g ≡ err j → Refusal s inputs j
  unfolding map_next
  next_refused outputs st F k n g j known sound few more e =
      ⊎_elim
      (λ r. wires_refused st.nodes known.store (let l = known.most in omega arith) st.cones F n known.cones g.wires g.bits j
      sound.earlier sound.constants sound.answers sound.shape r)
      (λ r. absurd (err_not j _ (sym r.2)))
      (err_then (map_gate s st.nodes (map (cone_at st.cones) g.wires) g.bits) _ j e)

-- ---- The gate that is refused, after those before it.

pub record RefusedGate (s : Settings) (outputs : List Output) (st : State) (gs : List Gate) (k line : ℕ) : Type 0 where
  pub before : List Gate
  pub gate : Gate
  pub after : List Gate
  pub state : State
  pub are : gs ≡ before ++ (gate ∷ after)
  pub reached : map_gates s outputs st before ≡ Good state
  pub refuses : map_next s outputs state gate ≡ err k
  pub at : gate.line ≡ line

refused_later : (s : Settings) (outputs : List Output) (st : State) (g : Gate) (gs : List Gate) (k line : ℕ) (r : State) → map_next s outputs st g ≡ ok r
    → RefusedGate s outputs r gs k line → RefusedGate s outputs st (g ∷ gs) k line
unfolding map_gates at_line and_then
refused_later s outputs st g gs k line r q h =
    record {
      before = g ∷ h.before;
      gate = h.gate;
      after = h.after;
      state = h.state;
      are = ap {B = List Gate} (λ l. g ∷ l) h.are;
      reached = rw q h.reached;
      refuses = h.refuses;
      at = h.at;
    }

pub gates_refused : (s : Settings) (outputs : List Output) (st : State) (gs : List Gate) (k line : ℕ) → map_gates s outputs st gs ≡ Refused k line
    → RefusedGate s outputs st gs k line
unfolding map_gates at_line and_then
gates_refused s outputs st [] k line e = absurd (zero≢one (cc))
gates_refused s outputs st (g ∷ gs) k line e = by (map_next s outputs st g) refl (λ r f. gates_refused s outputs r gs k line f) e
  where
    by : (x : Result State) → map_next s outputs st g ≡ x → ((r : State) → map_gates s outputs r gs ≡ Refused k line → RefusedGate s outputs r gs k line)
        → and_then (at_line g.line x) (λ r. map_gates s outputs r gs) ≡ Refused k line → RefusedGate s outputs st (g ∷ gs) k line
    by (ok r) q next f = refused_later s outputs st g gs k line r q (next r f)
    by (err j) q next f =
        let z = refused_same j g.line k line f in
        record { before = []; gate = g; after = gs; state = st; are = refl; reached = refl; refuses = q ∙ ap err z.0; at = z.1 }

-- and a gate that is refused, after those before it, refuses them all
pub gates_refuse : (s : Settings) (outputs : List Output) (st reached : State) (before after : List Gate) (g : Gate) (k : ℕ) → map_gates s outputs st before ≡ Good reached
    → map_next s outputs reached g ≡ err k → map_gates s outputs st (before ++ (g ∷ after)) ≡ Refused k g.line
unfolding map_gates at_line and_then
gates_refuse s outputs st reached [] after g k e q = rw (good_same st reached e, q)
gates_refuse s outputs st reached (x ∷ before) after g k e q =
    let p = good_then x.line (map_next s outputs st x) (λ r. map_gates s outputs r before) reached e in
    rw p.1 (gates_refuse s outputs p.0 reached before after g k p.2 q)
