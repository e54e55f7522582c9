-- A gate that depends on two sources is refused where M is 2: bootstraps leave its sides as they were, and no attempt succeeds.
use Rattle.std.specs.Prelude.{◌≡◌, refl, true, false, List, [], ◌∷◌, map, ℕ, ◌+◌, ◌*◌, ◌≤◌, T, eqb, length, get_or}
use Rattle.std.proofs.Common.{sym, ap₂, ◌∙◌}
use Rattle.std.proofs.Math.Path.{ap}
use Rattle.std.proofs.Math.Logic.{⊎_elim}
use borrow.Author.Tests.{le-leb, eqb-false, ne_eqb}
use Rattle.laws.specs.Test.{if_both, decide, neither_left, neither_right}
use Rattle.laws.specs.Lists.{nil_of}
use Rattle.rules.specs.declared.Settings.{Settings}
use Rattle.rules.specs.Circuit.{Gate, Output, Circuit}
use Rattle.rules.specs.Cone.{Cone, row_from, cone_bit, Result, err, less, cone_order_key}
use Rattle.rules.specs.Mapper.{Mapped, Sides, sides, switch_inputs, bootstrap_left, bootstrap_right, larger_first, over_limit, limit_second, limit_sources, attempt, or_else, second_attempt, third_attempt, map_binary_gate, is_constant, map_gate, State, cone_at, map_next, and_then, map_gates, used_settings, start, map_with, map_circuit, mapper}
use Rattle.rules.specs.Network.{LutNode, member}
use Rattle.rules.specs.Outcome.{outcome, refused}
use Rattle.rules.specs.Runs.{all_bits}
use Rattle.rules.specs.Store.{bootstrap_cone}
use Rattle.theorems.specs.ConeTruths.{cone_bit_le}
use Rattle.mapped.specs.Cones.{Standing, standing_shape}
use Rattle.mapped.specs.ConeGate.{answer}
use Rattle.mapped.specs.GateSides.{switched_answers}
use Rattle.mapped.specs.GateRefusals.{gates_refuse}
use Rattle.mapped.proofs.Cap.{reached_stand}
use Rattle.mapped.proofs.Whole.{refusal}
use Rattle.mapped.specs.ReplyStatements.{DependsOn, DependsOnTwo, TwoSourceGate}
use Rattle.mapped.specs.TwoSourceCones.{one_source, not_both, two_as, compose_none}

-- ---- A gate that depends on two sources, on cones of at most one, needs both.

-- assignments that differ in a node alone are the same where it is not a source
map-apart : (f g : ℕ → ℕ) (n : ℕ) → ((m : ℕ) → (m ≡ n → ⊥) → f m ≡ g m) → (ns : List ℕ) → member n ns ≡ false → map f ns ≡ map g ns
unfolding member
map-apart f g n h [] e = refl
map-apart f g n h (m ∷ ns) e =
    ap₂ {C = List ℕ} (λ x l. x ∷ l) (h m (λ q. eqb-false n m (neither_left (eqb n m) (member n ns) e) (sym q)))
    (map-apart f g n h ns (neither_right (eqb n m) (member n ns) e))

bit-apart : (f g : ℕ → ℕ) (n : ℕ) → ((m : ℕ) → (m ≡ n → ⊥) → f m ≡ g m) → (c : Cone) → member n c.support ≡ false → cone_bit f c ≡ cone_bit g c
unfolding cone_bit
bit-apart f g n h c e = ap (λ l. get_or c.truth (row_from 0 l) 0) (map-apart f g n h c.support e)

module _ (left right : Cone) (gate : List ℕ) where
  one_side : (n : ℕ) → DependsOn (answer left right gate) n → member n left.support ≡ false → member n right.support ≡ false → ⊥
  one_side n d l r =
      d.differ (ap₂ (λ x y. get_or gate (2 * x + y) 0) (bit-apart d.one d.other n d.alone left l) (bit-apart d.one d.other n d.alone right r))

  -- the other side has both, if one side has none
  from_right : (n : ℕ) → DependsOn (answer left right gate) n → left.support ≡ [] → member n right.support ≡ true
  unfolding member
  from_right n d e =
      ⊎_elim (λ (r : member n right.support ≡ true). r) (λ (r : member n right.support ≡ false). absurd (one_side n d (ap (member n) e) r))
      (decide (member n right.support))

  from_left : (n : ℕ) → DependsOn (answer left right gate) n → right.support ≡ [] → member n left.support ≡ true
  unfolding member
  from_left n d e =
      ⊎_elim (λ (l : member n left.support ≡ true). l) (λ (l : member n left.support ≡ false). absurd (one_side n d l (ap (member n) e)))
      (decide (member n left.support))

  module _ (two : DependsOnTwo (answer left right gate)) where
    left_varies : length right.support ≤ 1 → is_constant left ≡ false
    unfolding is_constant
    left_varies r =
        ne_eqb (length left.support) 0
        (λ e. let empty = nil_of left.support e in
        two.apart (not_both right.support two.first two.second r (from_right two.first two.on_first empty) (from_right two.second two.on_second empty)))

    right_varies : length left.support ≤ 1 → is_constant right ≡ false
    unfolding is_constant
    right_varies l =
        ne_eqb (length right.support) 0
        (λ e. let empty = nil_of right.support e in
        two.apart (not_both left.support two.first two.second l (from_left two.first two.on_first empty) (from_left two.second two.on_second empty)))

-- ---- The sides of such a gate stay as they were, and no attempt succeeds.

record Small (w : Sides) : Type 0 where
  left : length w.left.cone.support ≤ 1
  right : length w.right.cone.support ≤ 1
  left-bits : T (all_bits w.left.cone.truth)
  right-bits : T (all_bits w.right.cone.truth)
  two : DependsOnTwo (answer w.left.cone w.right.cone w.gate)

small-switched : (w : Sides) → Small w → Small (switch_inputs w)
unfolding switch_inputs
small-switched w k =
    record {
      left = k.right;
      right = k.left;
      left-bits = k.right-bits;
      right-bits = k.left-bits;
      two = two_as (answer w.left.cone w.right.cone w.gate) _
          (λ bit b. sym (switched_answers w.gate (cone_bit bit w.left.cone) (cone_bit bit w.right.cone)
          (cone_bit_le w.left.cone k.left-bits bit) (cone_bit_le w.right.cone k.right-bits bit))) k.two;
    }

module _ (s : Settings) where
  left-stays : (w : Sides) → Small w → Small (bootstrap_left s w)
  unfolding bootstrap_left bootstrap_cone
  left-stays w k =
      rw (le-leb (length w.left.cone.support) 1 k.left)
      (record { left = k.left; right = k.right; left-bits = k.left-bits; right-bits = k.right-bits; two = k.two })

  right-stays : (w : Sides) → Small w → Small (bootstrap_right s w)
  unfolding bootstrap_right bootstrap_cone
  right-stays w k =
      rw (le-leb (length w.right.cone.support) 1 k.right)
      (record { left = k.left; right = k.right; left-bits = k.left-bits; right-bits = k.right-bits; two = k.two })

  second-stays : (w : Sides) → Small w → Small (limit_second s w)
  unfolding limit_second
  second-stays w k = if_both Small (over_limit s w) (left-stays w k) k

  limit_stays : (w : Sides) → Small w → Small (limit_sources s w)
  unfolding limit_sources
  limit_stays w k = if_both Small (over_limit s w) (second-stays (switch_inputs (bootstrap_left s w)) (small-switched (bootstrap_left s w) (left-stays w k))) k

  module _ (short : s.m ≤ 2) where
    attempt_none : (w : Sides) (next : Result Mapped) → Small w → or_else w (attempt s w) next ≡ next
    unfolding attempt or_else
    attempt_none w next k = ap (λ o. or_else w o next) (compose_none s w.nodes short w.left.cone w.right.cone w.gate k.two)

    third_refuses : (w : Sides) → Small w → third_attempt s w ≡ err 9
    unfolding third_attempt
    third_refuses w k = attempt_none (bootstrap_right s w) (err 9) (right-stays w k)

    second_refuses : (w : Sides) → Small w → second_attempt s w ≡ err 9
    unfolding second_attempt
    second_refuses w k =
        let v = bootstrap_left s w in
        attempt_none v (third_attempt s v) (left-stays w k) ∙ third_refuses v (left-stays w k)

    binary_refuses : (nodes : List LutNode) (left right : Cone) (gate : List ℕ) → Small (sides nodes left right gate) → map_binary_gate s nodes left right gate ≡ err 9
    unfolding map_binary_gate larger_first sides
    binary_refuses nodes left right gate k =
        let first = if_both Small (less (cone_order_key nodes (sides nodes left right gate).left.cone) (cone_order_key nodes (sides nodes left right gate).right.cone)) (small-switched (sides nodes left right gate) k) k in
        let w = limit_sources s (larger_first (sides nodes left right gate)) in
        let z = limit_stays (larger_first (sides nodes left right gate)) first in
        attempt_none w (second_attempt s w) z ∙ second_refuses w z

    gate_refuses : (nodes : List LutNode) (left right : Cone) (gate : List ℕ) → Standing s nodes left → Standing s nodes right → DependsOnTwo (answer left right gate)
        → map_gate s nodes (left ∷ right ∷ []) gate ≡ err 9
    unfolding map_gate sides
    gate_refuses nodes left right gate sl sr two =
        let l = one_source s nodes short left sl in
        let r = one_source s nodes short right sr in
        rw (left_varies left right gate two r, right_varies left right gate two l)
        (binary_refuses nodes left right gate
        (record { left = l; right = r; left-bits = (standing_shape s nodes left sl).bits; right-bits = (standing_shape s nodes right sr).bits; two = two }))

    next_refuses : (outputs : List Output) (st : State) (g : Gate) (left right : Cone) → map (cone_at st.cones) g.wires ≡ left ∷ right ∷ [] → Standing s st.nodes left → Standing s st.nodes right
        → DependsOnTwo (answer left right g.bits) → map_next s outputs st g ≡ err 9
    unfolding map_next
    next_refuses outputs st g left right e sl sr two = rw (e, gate_refuses st.nodes left right g.bits sl sr two)

-- ---- A text.

pub refuses : (text buffer : List ℕ) (c : Circuit) (g : Gate) → TwoSourceGate text c g → (used_settings c.settings).m ≤ 2
    → mapper text buffer ≡ outcome (refused 9 g.line) buffer
unfolding and_then map_circuit map_with
refuses text buffer c g z short =
    let s = used_settings c.settings in
    let stand = reached_stand text c z.before z.after g z.state z.left z.right z.read z.are z.reached z.cones in
    let e = ap (map_gates s c.outputs (start c)) z.are ∙ gates_refuse s c.outputs (start c) z.state z.before z.after g 9 z.reached
    (next_refuses s short c.outputs z.state g z.left z.right z.cones stand.0 stand.1 z.depends) in
    refusal text buffer 9 g.line (rw (z.read, e) refl)
