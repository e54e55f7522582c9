-- never_ten: every cone of a mapping is built as its definition allows, so each passes the encoding check of `validate_cone`.
use Rattle.std.specs.Prelude.{◌≡◌, Bool, T, leb, ltb, length, set, take, drop}
use Rattle.std.proofs.Math.Path.{refl, subst}
use Rattle.std.proofs.Math.Bool.{true, false}
use mathlib.Core.List.{List, [], ◌∷◌, ◌++◌, map}
use Rattle.std.proofs.Math.Option
use Rattle.std.proofs.Math.Option.{Option, none, some, some-injective}
use Prim.Native.Nat.{ℕ, zero, suc, ◌+◌, ◌*◌, ◌≤◌}
use Rattle.std.proofs.Common.{arith, ltb-false}
use Rattle.std.proofs.Math.ListN.{get_or}
use Rattle.laws.specs.Tabulate.{tabulate}
use Rattle.laws.specs.Test.{if◌then◌otherwise◌, if_both, zero≢one}
use Rattle.laws.specs.Lists.{Each}
use Rattle.rules.specs.declared.Settings.{Settings}
use Rattle.rules.specs.declared.Wire.{Wire}
use Rattle.rules.specs.declared.Wire.TheVariants.{Const, Node}
use Rattle.rules.specs.Circuit.{Gate, Output, Circuit}
use Rattle.rules.specs.CircuitText.{in_limits, matching, read_circuit}
use Rattle.rules.specs.Composition.{union_support, gate_truth, all_equal, find_candidate, merge_cones, compose}
use Rattle.rules.specs.Cone.{Cone, constant, identity, Result, ok, err, ◌>>=◌, validate_cone, Candidate, less, cone_order_key}
use Rattle.rules.specs.Form.{Good}
use Rattle.rules.specs.Mapper.{Mapped, unchanged, map_unary_gate, Side, Sides, sides, switch_inputs, bootstrap_left, bootstrap_right, larger_first, over_limit, limit_second, limit_sources, attempt, update, mapped, or_else, third_attempt, second_attempt, map_binary_gate, is_constant, constant_value, map_gate, State, cone_at, replace, replaced, is_forced, forced, map_next, map_gates, used_settings, start}
use Rattle.rules.specs.Network.{LutNode}
use Rattle.rules.specs.Runs.{all_bits}
use Rattle.rules.specs.Store.{Stored, bootstrapped, bootstrap_cone}
use Rattle.theorems.specs.Bits.{bit_at, map-bits}
use Rattle.theorems.specs.LineBits.{WireBit}
use Rattle.theorems.specs.Results.{err_not, ok_same, ok_then, good_same, good_then}
use Rattle.theorems.specs.SoundCircuits.{WireBits, SoundGate, SoundGates}
use Rattle.theorems.specs.SoundTexts.{read_sound, gate_sound}
use Rattle.theorems.specs.Truths.{through_gate}
use Rattle.mapped.specs.ReplyStatements.{Built, from_constant, from_node, by_gate, by_merge, BuiltSides, AttemptsBuilt, GateBuilt, NeverTen}
use Rattle.mapped.specs.ConeFound.{OfSome}
use Rattle.mapped.specs.ConeGate.{gate_truth-bits}
use Rattle.mapped.specs.ConeUnary.{validated}
use Rattle.mapped.specs.Gates.{left-bits, right-bits}
use Rattle.mapped.specs.KnownGates.{wire_constant, two_have, four_answers}
use Rattle.mapped.specs.GateSides.{switched-bits}
use Rattle.mapped.proofs.Whole.{used_limits}
use Rattle.mapped.proofs.ConeBuilt.{kept, merged_within, passes}

-- ---- The sides of a gate.

-- Their cones are built, and the gate's answers are bits.
record Way (s : Settings) (w : Sides) : Type 0 where
  both : BuiltSides s w
  bits : T (all_bits w.gate)

module _ (s : Settings) where
  -- a bootstrap leaves the cone, or a node's
  booted : (nodes : List LutNode) (c : Cone) → Built s c → Built s (bootstrap_cone s nodes c).cone
  unfolding bootstrap_cone bootstrapped
  booted nodes c h = if_both (λ (b : Stored). Built s b.cone) (leb (length c.support) 1) h (from_node _)

  left_way : (w : Sides) → Way s w → Way s (bootstrap_left s w)
  unfolding bootstrap_left
  left_way w h = record { both = record { left = booted w.nodes w.left.cone h.both.left; right = h.both.right }; bits = h.bits }

  right_way : (w : Sides) → Way s w → Way s (bootstrap_right s w)
  unfolding bootstrap_right
  right_way w h = record { both = record { left = h.both.left; right = booted w.nodes w.right.cone h.both.right }; bits = h.bits }

  switched_way : (w : Sides) → Way s w → Way s (switch_inputs w)
  unfolding switch_inputs
  switched_way w h = record { both = record { left = h.both.right; right = h.both.left }; bits = switched-bits w.gate h.bits }

  second_way : (w : Sides) → Way s w → Way s (limit_second s w)
  unfolding limit_second
  second_way w h = if_both (Way s) (over_limit s w) (left_way w h) h

  limited_way : (w : Sides) → Way s w → Way s (limit_sources s w)
  unfolding limit_sources
  limited_way w h = if_both (Way s) (over_limit s w) (second_way (switch_inputs (bootstrap_left s w)) (switched_way (bootstrap_left s w) (left_way w h))) h

  first_way : (nodes : List LutNode) (left right : Cone) (gate : List ℕ) → Built s left → Built s right → T (all_bits gate) → Way s (limit_sources s (larger_first (sides nodes left right gate)))
  unfolding larger_first sides
  first_way nodes left right gate l r b =
      let w = sides nodes left right gate in
      let h : Way s w = record { both = record { left = l; right = r }; bits = b } in
      limited_way (larger_first w) (if_both (Way s) (less (cone_order_key nodes left) (cone_order_key nodes right)) (switched_way w h) h)

  attempts_built : (w : Sides) → Way s w → AttemptsBuilt s w
  attempts_built w h = record { first = h.both; second = (left_way w h).both; third = (right_way (bootstrap_left s w) (left_way w h)).both }

-- ---- What a gate gives: its cone, and those that take its wires' places.

record Gives (s : Settings) (m : Mapped) : Type 0 where
  own : Built s m.cone
  first : OfSome (Built s) m.first
  second : OfSome (Built s) m.second

module _ (s : Settings) where
  composed_built : (nodes : List LutNode) (left right : Cone) (gate : List ℕ) (c : Cone) → Built s left → Built s right → T (all_bits gate)
      → compose s nodes left right gate ≡ some c → Built s c
  unfolding compose
  composed_built nodes left right gate c l r b e = by (ltb (s.t + 1) (length U)) (all_equal truth) refl e
    where
      U : List ℕ
      U = union_support left.support right.support

      truth : List ℕ
      truth = gate_truth U left right gate

      merged : (o : Option Candidate) → find_candidate s nodes U left right truth ≡ o → length U ≤ s.t + 1 → Option.map merge_cones o ≡ some c → Built s c
      merged none f few e = absurd (zero≢one (cc))
      merged (some d) f few e = subst (Built s) (some-injective (merge_cones d) c e) (by_merge nodes left right gate d l r (record { bits = b; few = few; finds = f }))

      by : (a t : Bool) → ltb (s.t + 1) (length U) ≡ a
          → (if a then none otherwise if t then some (constant (get_or truth 0 0)) otherwise Option.map merge_cones (find_candidate s nodes U left right truth)) ≡ some c → Built s c
      by true t f e = absurd (zero≢one (cc))
      by false true f e = subst (Built s) (some-injective (constant (get_or truth 0 0)) c e) (from_constant (get_or truth 0 0) (bit_at truth 0 (gate_truth-bits left right gate U b)))
      by false false f e = merged (find_candidate s nodes U left right truth) refl (ltb-false (s.t + 1) (length U) f) e

  side_gives : (x : Side) → Built s x.cone → OfSome (Built s) (update x)
  unfolding update
  side_gives x h = if_both (OfSome (Built s)) x.new h tt

  mapped_gives : (w : Sides) (c : Cone) → Way s w → Built s c → Gives s (mapped w c)
  unfolding mapped
  mapped_gives w c h k =
      let either : (b : Bool) (x y : Side) → Built s x.cone → Built s y.cone → OfSome (Built s) (update (if b then x otherwise y)) =
      λ b x y p q. if_both (λ z. OfSome (Built s) (update z)) b (side_gives x p) (side_gives y q) in
      record { own = k; first = either w.switched w.right w.left h.both.right h.both.left; second = either w.switched w.left w.right h.both.left h.both.right }

  attempt_gives : (w : Sides) (next : Result Mapped) (m : Mapped) → Way s w → (next ≡ ok m → Gives s m) → or_else w (attempt s w) next ≡ ok m → Gives s m
  unfolding attempt or_else
  attempt_gives w next m h n = by (compose s w.nodes w.left.cone w.right.cone w.gate) refl
    where
      by : (o : Option Cone) → compose s w.nodes w.left.cone w.right.cone w.gate ≡ o → or_else w o next ≡ ok m → Gives s m
      by none q e = n e
      by (some c) q e =
          subst (Gives s) (ok_same (mapped w c) m e)
          (mapped_gives w c h (composed_built w.nodes w.left.cone w.right.cone w.gate c h.both.left h.both.right h.bits q))

  third_gives : (w : Sides) (m : Mapped) → Way s w → third_attempt s w ≡ ok m → Gives s m
  unfolding third_attempt
  third_gives w m h e = attempt_gives (bootstrap_right s w) (err 9) m (right_way s w h) (λ q. absurd (err_not 9 m q)) e

  second_gives : (w : Sides) (m : Mapped) → Way s w → second_attempt s w ≡ ok m → Gives s m
  unfolding second_attempt
  second_gives w m h e = attempt_gives (bootstrap_left s w) (third_attempt s (bootstrap_left s w)) m (left_way s w h) (third_gives (bootstrap_left s w) m (left_way s w h)) e

  binary_gives : (nodes : List LutNode) (left right : Cone) (gate : List ℕ) (m : Mapped) → Built s left → Built s right → T (all_bits gate)
      → map_binary_gate s nodes left right gate ≡ ok m → Gives s m
  unfolding map_binary_gate
  binary_gives nodes left right gate m l r b e =
      let h = first_way s nodes left right gate l r b in
      attempt_gives (limit_sources s (larger_first (sides nodes left right gate))) (second_attempt s _) m h (second_gives (limit_sources s (larger_first (sides nodes left right gate))) m h) e

  unchanged_gives : (nodes : List LutNode) (c : Cone) (m : Mapped) → Built s c → unchanged nodes c ≡ ok m → Gives s m
  unfolding unchanged
  unchanged_gives nodes c m h e = subst (Gives s) (ok_same _ m e) (record { own = h; first = tt; second = tt })

  unary_gives : (nodes : List LutNode) (c : Cone) (gate : List ℕ) (m : Mapped) → Built s c → T (all_bits gate) → map_unary_gate s nodes c gate ≡ ok m → Gives s m
  unfolding map_unary_gate through_gate
  unary_gives nodes c gate m h b e = by (all_equal (through_gate c gate).truth) e
    where
      by : (a : Bool) → (if a then unchanged nodes (constant (get_or (through_gate c gate).truth 0 0)) otherwise (validate_cone s nodes (through_gate c gate) >>= unchanged nodes)) ≡ ok m → Gives s m
      by true e =
          unchanged_gives nodes _ m (from_constant _ (bit_at (through_gate c gate).truth 0 (map-bits (λ i. get_or gate i 0) (λ i. bit_at gate i b) c.truth))) e
      by false e =
          let p = ok_then (validate_cone s nodes (through_gate c gate)) (unchanged nodes) m e in
          unchanged_gives nodes p.0 m (subst (Built s) (validated s nodes (through_gate c gate) p.0 p.1).0 (by_gate c gate h b)) p.2

-- ---- The cones of a circuit's nodes.

each_set : {A : Type 0} (Q : A → Type 0) (l : List A) (i : ℕ) (x : A) → Each Q l → Q x → Each Q (set l i x)
each_set Q [] i x h q = tt
each_set Q (y ∷ l) zero x h q = (q, h.1)
each_set Q (y ∷ l) (suc i) x h q = (h.0, each_set Q l i x h.1 q)

each_snoc : {A : Type 0} (Q : A → Type 0) (l : List A) (x : A) → Each Q l → Q x → Each Q (l ++ (x ∷ []))
each_snoc Q [] x h q = (q, tt)
each_snoc Q (y ∷ l) x h q = (h.0, each_snoc Q l x h.1 q)

each_at : {A : Type 0} (Q : A → Type 0) (l : List A) (d : A) (i : ℕ) → Each Q l → Q d → Q (get_or l i d)
each_at Q [] d i h q = q
each_at Q (x ∷ l) d zero h q = h.0
each_at Q (x ∷ l) d (suc i) h q = each_at Q l d i h.1 q

module _ (s : Settings) (limits : in_limits s ≡ true) where
  wire_built : (cones : List Cone) (w : Wire) → Each (Built s) cones → WireBit w → Built s (cone_at cones w)
  unfolding cone_at WireBit
  wire_built cones (Const b) h k = from_constant b k
  wire_built cones (Node i) h k = each_at (Built s) cones (constant 0) i h (from_constant 0 (omega arith))

  value_bit : (c : Cone) → Built s c → constant_value c ≤ 1
  unfolding constant_value
  value_bit c h = bit_at c.truth 0 (kept s limits c h).bits

  two_give : (nodes : List LutNode) (left right : Cone) (gate : List ℕ) (m : Mapped) → Built s left → Built s right → length gate ≡ 4 → T (all_bits gate)
      → map_gate s nodes (left ∷ right ∷ []) gate ≡ ok m → Gives s m
  unfolding map_gate
  two_give nodes left right gate m l r four b = by (is_constant left) (is_constant right)
    where
      by : (t u : Bool) → (if t then map_unary_gate s nodes right (take 2 (drop (2 * constant_value left) gate))
          otherwise if u then map_unary_gate s nodes left (get_or gate (constant_value right) 0 ∷ get_or gate (2 + constant_value right) 0 ∷ [])
          otherwise map_binary_gate s nodes left right gate) ≡ ok m → Gives s m
      by true u e = unary_gives s nodes right _ m r (left-bits gate four b (constant_value left) (value_bit left l)) e
      by false true e = unary_gives s nodes left _ m l (right-bits gate four b (constant_value right) (value_bit right r)) e
      by false false e = binary_gives s nodes left right gate m l r b e

  wires_give : (nodes : List LutNode) (cones : List Cone) (ws : List Wire) (gate : List ℕ) (m : Mapped) → Each (Built s) cones → WireBits ws → T (all_bits gate)
      → matching gate ws ≡ true → map_gate s nodes (map (cone_at cones) ws) gate ≡ ok m → Gives s m
  unfolding WireBits
  wires_give nodes cones [] gate m h w b q e = absurd (err_not 7 m (unfold map_gate in e))
  wires_give nodes cones (v ∷ []) gate m h w b q e = unary_gives s nodes (cone_at cones v) gate m (wire_built cones v h w.0) b (unfold map_gate in e)
  wires_give nodes cones (v ∷ u ∷ []) gate m h w b q e =
      two_give nodes (cone_at cones v) (cone_at cones u) gate m (wire_built cones v h w.0) (wire_built cones u h w.1.0) (four_answers gate v u q) b e
  wires_give nodes cones (v ∷ u ∷ x ∷ ws) gate m h w b q e = absurd (err_not 7 m (unfold map_gate in e))

  replace_built : (w : Wire) (o : Option Cone) (cones : List Cone) → OfSome (Built s) o → Each (Built s) cones → Each (Built s) (replace w o cones)
  unfolding replace
  replace_built (Const b) o cones h k = k
  replace_built (Node i) none cones h k = k
  replace_built (Node i) (some c) cones h k = each_set (Built s) cones i c k h

  replaced_built : (ws : List Wire) (m : Mapped) (cones : List Cone) → Gives s m → Each (Built s) cones → Each (Built s) (replaced ws m cones)
  unfolding replaced
  replaced_built ws m cones k h =
      replace_built (get_or ws 1 (Const 0)) m.second (replace (get_or ws 0 (Const 0)) m.first cones) k.second (replace_built (get_or ws 0 (Const 0)) m.first cones k.first h)

  forced_built : (f : Bool) (m : Mapped) → Built s m.cone → Built s (forced s f m).cone
  unfolding forced
  forced_built f m h = if_both (λ (b : Stored). Built s b.cone) f (booted s m.nodes m.cone h) h

  next_built : (outputs : List Output) (st after : State) (n : ℕ) (g : Gate) → Each (Built s) st.cones → SoundGate n g → map_next s outputs st g ≡ ok after
      → Each (Built s) after.cones
  unfolding map_next
  next_built outputs st after n g h sound e =
      let p = ok_then (map_gate s st.nodes (map (cone_at st.cones) g.wires) g.bits) _ after e in
      let m = p.0 in
      let k = wires_give st.nodes st.cones g.wires g.bits m h sound.constants sound.answers sound.shape p.1 in
      subst (λ (x : State). Each (Built s) x.cones) (ok_same _ after p.2)
      (each_snoc (Built s) (replaced g.wires m st.cones) _ (replaced_built g.wires m st.cones k h) (forced_built (is_forced s outputs (length st.cones)) m k.own))

  gates_built : (outputs : List Output) (st after : State) (n : ℕ) (gs : List Gate) → Each (Built s) st.cones → SoundGates n gs → map_gates s outputs st gs ≡ Good after
      → Each (Built s) after.cones
  unfolding map_gates SoundGates
  gates_built outputs st after n [] h sound e = subst (λ (x : State). Each (Built s) x.cones) (good_same st after e) h
  gates_built outputs st after n (g ∷ gs) h sound e =
      let p = good_then g.line (map_next s outputs st g) (λ r. map_gates s outputs r gs) after e in
      gates_built outputs p.0 after (suc n) gs (next_built outputs st p.0 n g h sound.0 p.1) sound.1 p.2

  -- a gate that is reached
  gate_built : (st : State) (n : ℕ) (g : Gate) → Each (Built s) st.cones → SoundGate n g → GateBuilt s st g
  gate_built st n g h sound =
      let wires : (i : ℕ) → Built s (cone_at st.cones (get_or g.wires i (Const 0))) =
      λ i. wire_built st.cones (get_or g.wires i (Const 0)) h (wire_constant g.wires sound.constants i) in
      record {
        wires = wires;
        attempts = λ left right e.
            let two = two_have (Built s) st.cones g.wires left right e wires in
            attempts_built s _ (first_way s st.nodes left right g.bits two.0 two.1 sound.answers);
        own = λ m e. (wires_give st.nodes st.cones g.wires g.bits m h sound.constants sound.answers sound.shape e).own;
      }

-- ---- A text.

each_tabulated : {A : Type 0} (Q : A → Type 0) (n : ℕ) (f : ℕ → A) → ((i : ℕ) → Q (f i)) → Each Q (tabulate n f)
unfolding tabulate
each_tabulated Q zero f h = tt
each_tabulated Q (suc n) f h = (h 0, each_tabulated Q n (λ i. f (suc i)) (λ i. h (suc i)))

module _ (text : List ℕ) (c : Circuit) (read : read_circuit text ≡ Good c) where
  abbrev s : Settings
  s = used_settings c.settings

  limits : in_limits s ≡ true
  limits = used_limits c.settings (read_sound text c read).settings.limits

  reached_built : (gs : List Gate) (st : State) → SoundGates (length c.inputs) gs → map_gates s c.outputs (start c) gs ≡ Good st → Each (Built s) st.cones
  unfolding start
  reached_built gs st sound e = gates_built s limits c.outputs (start c) st (length c.inputs) gs (each_tabulated (Built s) (length c.inputs) identity from_node) sound e

  reached_gate : (before after : List Gate) (g : Gate) (st : State) → c.gates ≡ before ++ (g ∷ after) → map_gates s c.outputs (start c) before ≡ Good st → GateBuilt s st g
  reached_gate before after g st split e =
      let z = gate_sound (length c.inputs) before g after (subst (SoundGates (length c.inputs)) split (read_sound text c read).parts.gates_sound) in
      gate_built s limits st _ g (reached_built before st z.0 e) z.1

pub never_ten : (text : List ℕ) → NeverTen text
never_ten text =
    record {
      encoded = λ c d read h. passes (used_settings c.settings) (limits text c read) d h;
      merged = λ c nodes left right gate d read l r m. merged_within (used_settings c.settings) (limits text c read) nodes left right gate d l r m;
      gates = λ c before after g st read split e. reached_gate text c read before after g st split e;
      cones = λ c st i read e.
          each_at (Built (used_settings c.settings)) st.cones (constant 0) i (reached_built text c read c.gates st (read_sound text c read).parts.gates_sound e)
          (from_constant 0 (omega arith));
    }
