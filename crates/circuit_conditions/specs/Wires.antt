-- A gate's wires, of which the code keeps one or two, that there are none or more, and whether one goes to no earlier node.
use Rattle.std.specs.Prelude.{◌≡◌, refl, Bool, false, ◌||◌, List, [], ◌∷◌, ℕ, suc, ◌<◌, ◌≤◌, min, eqb, length}
use Rattle.std.proofs.Common.{sym, ◌∙◌, ⊎_elim, arith}
use Rattle.std.proofs.Math.Bool.{or-false, or_assoc}
use borrow.Author.Tests.{le-leb, lt-leb, ne_eqb}
use Rattle.laws.specs.Test.{lt_or_le}
use Rattle.rules.specs.declared.Wire.{Wire}
use Rattle.rules.specs.declared.Wire.TheVariants.{Const, Node}
use Rattle.rules.specs.CircuitText.{no_node, any_no_node, matching}
use Rattle.forms.specs.Wire.{cap_wire}
use Rattle.circuit_conditions.specs.declared.GateWires.{GateWires}
use Rattle.circuit_conditions.specs.declared.Wires.{Wires}
use Rattle.circuit_conditions.specs.declared.Wires.TheVariants as W

unfoldable pub no_wires : GateWires
no_wires = record { wires = W.None; astray = false }

abbrev pub and_wire : Wires → Wire → Wires
and_wire W.None w = W.One w
and_wire (W.One u) w = W.Two u w
and_wire (W.Two u v) w = W.More
and_wire W.More w = W.More

-- One wire more, of a gate after n nodes.
unfoldable pub with_wire : ℕ → GateWires → Wire → GateWires
with_wire n v w = record { wires = and_wire v.wires w; astray = v.astray || no_node n w }

unfoldable pub with_wires : ℕ → GateWires → List Wire → GateWires
with_wires n v [] = v
with_wires n v (w ∷ ws) = with_wires n (with_wire n v (cap_wire w)) ws

-- The wires that are kept.
abbrev pub wires_of : Wires → List Wire
wires_of W.None = []
wires_of (W.One u) = u ∷ []
wires_of (W.Two u v) = u ∷ v ∷ []
wires_of W.More = []

-- ---- What is kept decides the conditions 6 and 7.

pub cap_no_node : (n : ℕ) (w : Wire) → n ≤ 65536 → no_node n (cap_wire w) ≡ no_node n w
unfolding cap_wire no_node
cap_no_node n (Const b) h = refl
cap_no_node n (Node i) h =
    ⊎_elim (λ (l : i < n). rw (lt-leb n i l, lt-leb n (min 65536 i) (omega arith)))
    (λ (l : n ≤ i). rw (le-leb n i l, le-leb n (min 65536 i) (omega arith))) (lt_or_le i n)

wires_astray : (n : ℕ) (v : GateWires) (ws : List Wire) → n ≤ 65536 → (with_wires n v ws).astray ≡ (v.astray || any_no_node n ws)
unfolding with_wires with_wire any_no_node
wires_astray n v [] h = sym (or-false v.astray)
wires_astray n v (w ∷ ws) h =
    wires_astray n (with_wire n v (cap_wire w)) ws h ∙ rw (cap_no_node n w h) (or_assoc v.astray (no_node n w) (any_no_node n ws))

pub astray_is : (n : ℕ) (ws : List Wire) → n ≤ 65536 → (with_wires n no_wires ws).astray ≡ any_no_node n ws
unfolding no_wires
astray_is n ws h = wires_astray n no_wires ws h

-- a third wire and those after it are not kept
more : (n : ℕ) (v : GateWires) (ws : List Wire) → v.wires ≡ W.More → (with_wires n v ws).wires ≡ W.More
unfolding with_wires with_wire
more n v [] e = e
more n v (w ∷ ws) e = more n (with_wire n v (cap_wire w)) ws (rw e)

unfoldable pub shape : Wires → ℕ → Bool
shape W.None bits = false
shape (W.One u) bits = eqb bits 2
shape (W.Two u v) bits = eqb bits 4
shape W.More bits = false

pub long_unmatched : (b : List ℕ) (u v w : Wire) (ws : List Wire) → matching b (u ∷ v ∷ w ∷ ws) ≡ false
unfolding matching
long_unmatched b u v w ws =
    let m = suc (suc (suc (length ws))) in
    rw (ne_eqb m 1 (λ (e : m ≡ 1). omega arith), ne_eqb m 2 (λ (e : m ≡ 2). omega arith))

pub shape_is : (n : ℕ) (b : List ℕ) (ws : List Wire) → shape (with_wires n no_wires ws).wires (length b) ≡ matching b ws
unfolding shape matching no_wires with_wires with_wire
shape_is n b [] = refl
shape_is n b (u ∷ []) = sym (or-false (eqb (length b) 2))
shape_is n b (u ∷ v ∷ []) = refl
shape_is n b (u ∷ v ∷ w ∷ ws) =
    rw (more n (with_wire n (with_wire n (with_wire n no_wires (cap_wire u)) (cap_wire v)) (cap_wire w)) ws refl)
    (sym (long_unmatched b u v w ws))
