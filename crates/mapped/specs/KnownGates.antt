-- All gates in turn: what is known of store and cones after each, and why one is refused.
use Rattle.std.specs.Prelude.{◌≡◌, Bool, ◌||◌, T, eqb}
use Rattle.std.proofs.Math.Path.{refl, ap, subst, subst₂}
use Rattle.std.proofs.Math.Bool.{true, false}
use mathlib.Core.List.{List, [], ◌∷◌, ◌++◌, map}
use Prim.Native.Nat.{ℕ, zero, suc, ◌+◌, ◌*◌, ◌≤◌, ◌<◌}
use native.Mathlib.Omega.{arith}
use borrow.Author.Tests.{eqb-true}
use Rattle.std.proofs.Math.ListN.{length, get_or}
use Rattle.laws.specs.Test.{zero≢one, neither_left, neither_right}
use Rattle.rules.specs.declared.Settings.{Settings}
use Rattle.rules.specs.declared.Wire.{Wire}
use Rattle.rules.specs.declared.Wire.TheVariants.{Const}
use Rattle.rules.specs.Circuit.{Given, Gate, Output, wire_bit, position, gate_bit, gate_values}
use Rattle.rules.specs.CircuitText.{in_limits, no_node, any_no_node, matching}
use Rattle.rules.specs.Cone.{Cone, ok}
use Rattle.rules.specs.Form.{Good}
use Rattle.rules.specs.Mapper.{Mapped, map_gate, State, cone_at, replaced, is_forced, forced, map_next, map_gates}
use Rattle.rules.specs.Network.{LutNode, is_linear, count}
use Rattle.rules.specs.Runs.{all_bits}
use Rattle.rules.specs.Store.{Stored}
use Rattle.theorems.specs.LineBits.{WireBit}
use Rattle.theorems.specs.SoundCircuits.{WireBits, SoundGate, SoundGates}
use Rattle.theorems.specs.Results.{ok_then, ok_same, good_same, good_then}
use Rattle.mapped.specs.GateMeaning.{Means, cost_most, means_booted}
use Rattle.mapped.specs.GateSides.{GateMapped}
use Rattle.mapped.specs.Store.{net_for, Grown, Store, grown_refl}
use Rattle.mapped.specs.Gates.{Cones, cones-replaced, cones_grown, cones_snoc, unary_mapped, wire_means, two_mapped}

-- ---- A gate of the circuit.

pub wire_in : (n : ℕ) (ws : List Wire) (j : ℕ) → any_no_node n ws ≡ false → no_node n (get_or ws j (Const 0)) ≡ false
unfolding any_no_node no_node
wire_in n [] j e = refl
wire_in n (w ∷ ws) zero e = neither_left (no_node n w) (any_no_node n ws) e
wire_in n (w ∷ ws) (suc j) e = wire_in n ws j (neither_right (no_node n w) (any_no_node n ws) e)

pub wire_constant : (ws : List Wire) → WireBits ws → (j : ℕ) → WireBit (get_or ws j (Const 0))
unfolding WireBits WireBit
wire_constant [] b j = omega arith
wire_constant (w ∷ ws) b zero = b.0
wire_constant (w ∷ ws) b (suc j) = wire_constant ws b.1 j

-- what the cones of all wires have, those of two wires have
pub two_have : (Q : Cone → Type 0) (cones : List Cone) (ws : List Wire) (left right : Cone) → map (cone_at cones) ws ≡ left ∷ right ∷ []
    → ((j : ℕ) → Q (cone_at cones (get_or ws j (Const 0)))) → Q left × Q right
two_have Q cones [] left right e h = absurd (zero≢one (cc))
two_have Q cones (v ∷ []) left right e h = absurd (zero≢one (cc))
two_have Q cones (v ∷ w ∷ []) left right e h =
    let l : cone_at cones v ≡ left = cc in
    let r : cone_at cones w ≡ right = cc in
    (subst Q l (h 0), subst Q r (h 1))
two_have Q cones (u ∷ v ∷ w ∷ ws) left right e h = absurd (zero≢one (cc))

-- as many answers as the wires ask for
two_answers : (gate : List ℕ) (w : Wire) → matching gate (w ∷ []) ≡ true → length gate ≡ 2
unfolding matching
two_answers gate w e = by (eqb (length gate) 2) (eqb-true (length gate) 2) e
  where
    by : (t : Bool) → (t ≡ true → length gate ≡ 2) → (t || false) ≡ true → length gate ≡ 2
    by true f e = f refl
    by false f e = absurd (zero≢one (cc))

pub four_answers : (gate : List ℕ) (v w : Wire) → matching gate (v ∷ w ∷ []) ≡ true → length gate ≡ 4
unfolding matching
four_answers gate v w e = eqb-true (length gate) 4 e

-- What is left of a gate that is bootstrapped, or not.
record Forced (s : Settings) (inputs : List Given) (h : List ℕ → ℕ) (nodes : List LutNode) (b : Stored) : Type 0 where
  store : Store (net_for s) inputs b.nodes
  grown : Grown nodes b.nodes
  most : length b.nodes ≤ length nodes + 2
  sums : count is_linear b.nodes ≤ count is_linear nodes + 1
  means : Means s inputs b.nodes b.cone h

-- What is known after k gates and n nodes of the circuit, whose bits are those of F.
pub record Known (s : Settings) (inputs : List Given) (st : State) (F : List ℕ → List ℕ) (k n : ℕ) : Type 0 where
  pub store : Store (net_for s) inputs st.nodes
  pub most : length st.nodes ≤ length inputs + 6 * k
  pub sums : count is_linear st.nodes ≤ 3 * k
  pub cones : Cones s inputs st.nodes st.cones F n

module _ (s : Settings) (inputs : List Given) (limits : in_limits s ≡ true) where
  module _ (nodes : List LutNode) (store : Store (net_for s) inputs nodes) (room : length nodes + 6 ≤ 672)
      (cones : List Cone) (F : List ℕ → List ℕ) (n : ℕ) (known : Cones s inputs nodes cones F n) where
    pub wires_mapped : (ws : List Wire) (gate : List ℕ) (m : Mapped) → any_no_node n ws ≡ false → WireBits ws → T (all_bits gate) → matching gate ws ≡ true
        → map_gate s nodes (map (cone_at cones) ws) gate ≡ ok m
        → GateMapped s inputs nodes (λ bits. wire_bit (F bits) (get_or ws 0 (Const 0))) (λ bits. wire_bit (F bits) (get_or ws 1 (Const 0)))
        (λ bits. get_or gate (position 0 (F bits) ws) 0) m
    unfolding map_gate position WireBits
    wires_mapped [] gate m w c b q e = absurd (zero≢one (cc))
    wires_mapped (v ∷ []) gate m w c b q e =
        unary_mapped s inputs limits nodes store (cone_at cones v) gate m (λ bits. wire_bit (F bits) v) _ _ _
        (wire_means s inputs nodes store F n cones v known (wire_in n (v ∷ []) 0 w) c.0) (two_answers gate v q) b
        (λ bits t. ap (λ i. get_or gate i 0) (omega arith)) e
    wires_mapped (v ∷ u ∷ []) gate m w c b q e =
        two_mapped s inputs limits nodes store room (cone_at cones v) (cone_at cones u) gate m (λ bits. wire_bit (F bits) v) (λ bits. wire_bit (F bits) u) _
        (wire_means s inputs nodes store F n cones v known (wire_in n (v ∷ u ∷ []) 0 w) c.0)
        (wire_means s inputs nodes store F n cones u known (wire_in n (v ∷ u ∷ []) 1 w) c.1.0) (four_answers gate v u q) b
        (λ bits t. ap (λ i. get_or gate i 0) (omega arith)) e
    wires_mapped (v ∷ u ∷ x ∷ ws) gate m w c b q e = absurd (zero≢one (cc))

  -- ---- A gate that is bootstrapped at once.

  forced_kept : (h : List ℕ → ℕ) (t : Bool) (m : Mapped) → Store (net_for s) inputs m.nodes → length m.nodes + 2 ≤ 672
      → Means s inputs m.nodes m.cone h → Forced s inputs h m.nodes (forced s t m)
  unfolding forced
  forced_kept h true m store room k =
      let q = means_booted s inputs m.nodes store limits room m.cone h k in
      let x = q.most in
      let y = q.sums in
      let w = cost_most m.cone in
      record { store = q.store; grown = q.grown; most = omega arith; sums = omega arith; means = q.means }
  forced_kept h false m store room k = record { store = store; grown = grown_refl m.nodes; most = omega arith; sums = omega arith; means = k }

  pub next_known : (outputs : List Output) (st after : State) (F : List ℕ → List ℕ) (k n : ℕ) (g : Gate) → Known s inputs st F k n → SoundGate n g
      → length inputs ≤ 32 → k < 96 → map_next s outputs st g ≡ ok after
      → Known s inputs after (λ bits. F bits ++ (gate_bit (F bits) g ∷ [])) (suc k) (suc n)
  unfolding map_next gate_bit replaced
  next_known outputs st after F k n g known sound few more e =
      let p = ok_then (map_gate s st.nodes (map (cone_at st.cones) g.wires) g.bits) _ after e in
      let m = p.0 in
      let b = forced s (is_forced s outputs (length st.cones)) m in
      let l = known.most in
      let z = known.sums in
      let gm = wires_mapped st.nodes known.store (omega arith) st.cones F n known.cones g.wires g.bits m
      sound.earlier sound.constants sound.answers sound.shape p.1 in
      let l' = gm.most in
      let z' = gm.sums in
      let fm = forced_kept (λ bits. gate_bit (F bits) g) (is_forced s outputs (length st.cones)) m gm.store (omega arith) gm.means in
      let l'' = fm.most in
      let z'' = fm.sums in
      let old = cones_grown s inputs st.nodes known.store F n m.nodes st.cones gm.grown known.cones in
      let one = cones-replaced s inputs m.nodes gm.store F n st.cones (get_or g.wires 0 (Const 0)) m.first old (wire_in n g.wires 0 sound.earlier) gm.first in
      let two = cones-replaced s inputs m.nodes gm.store F n _ (get_or g.wires 1 (Const 0)) m.second one (wire_in n g.wires 1 sound.earlier) gm.second in
      let new = cones_grown s inputs m.nodes gm.store F n b.nodes _ fm.grown two in
      subst (λ x. Known s inputs x (λ bits. F bits ++ (gate_bit (F bits) g ∷ [])) (suc k) (suc n)) (ok_same _ after p.2)
      (record {
        store = fm.store;
        most = omega arith;
        sums = omega arith;
        cones = cones_snoc s inputs b.nodes fm.store F n _ b.cone (λ bits. gate_bit (F bits) g) new fm.means;
      })

  pub gates-known : (outputs : List Output) (st after : State) (F : List ℕ → List ℕ) (k n : ℕ) (gs : List Gate) → Known s inputs st F k n → SoundGates n gs
      → length inputs ≤ 32 → k + length gs ≤ 96 → map_gates s outputs st gs ≡ Good after
      → Known s inputs after (λ bits. gate_values (F bits) gs) (k + length gs) (n + length gs)
  unfolding map_gates gate_values SoundGates
  gates-known outputs st after F k n [] known sound few more e =
      let q : k ≡ k + 0 = omega arith in
      let r : n ≡ n + 0 = omega arith in
      subst₂ (Known s inputs after F) q r (subst (λ x. Known s inputs x F k n) (good_same st after e) known)
  gates-known outputs st after F k n (g ∷ gs) known sound few more e =
      let p = good_then g.line (map_next s outputs st g) (λ r. map_gates s outputs r gs) after e in
      let q : suc k + length gs ≡ k + suc (length gs) = omega arith in
      let r : suc n + length gs ≡ n + suc (length gs) = omega arith in
      subst₂ (Known s inputs after (λ bits. gate_values (F bits ++ (gate_bit (F bits) g ∷ [])) gs)) q r
      (gates-known outputs p.0 after (λ bits. F bits ++ (gate_bit (F bits) g ∷ [])) (suc k) (suc n) gs
      (next_known outputs st p.0 F k n g known sound.0 few (omega arith) p.1) sound.1 few (omega arith) p.2)
