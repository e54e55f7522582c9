-- The state when a gate of a sound circuit is reached is good.
use Rattle.std.specs.Prelude.{◌≡◌, true, false, ◌&&◌, ◌||◌, not, List, [], ◌∷◌, ◌++◌, map, ℕ, zero, suc, ◌+◌, ◌*◌, ◌≤◌, ◌<◌, leb, eqb, nat_abs, length, get_or, take, drop}
use Rattle.std.proofs.Common.{sym, ap, subst, subst₂, ◌∙◌, ⊎_elim, append-nil, arith, leb-false, leb-true, eqb-true}
use Rattle.std.proofs.Math.ListN.{get_or-eq_default}
use Rattle.std.proofs.Math.Seq.{drop-cons}
use Rattle.std.proofs.lemmas.Bool.{ltb-false, not-false}
use Rattle.std.proofs.lemmas.List.{take-append-drop, length-take-le}
use Rattle.laws.specs.Lists.{nil_of}
use Rattle.laws.specs.Test.{T-is, lt_or_le, or_cases, both_left, both_right, neither_left, neither_right}
use Rattle.rules.specs.declared.Settings.{Settings}
use Rattle.rules.specs.Builder.{known_entries}
use Rattle.rules.specs.Circuit.{Given, given_names, Circuit, gate_values}
use Rattle.rules.specs.CircuitText.{in_limits}
use Rattle.rules.specs.Cone.{Cone, constant, values, cone_span, encoding, is_lut_valid}
use Rattle.rules.specs.Form.{Good, is_name_byte}
use Rattle.rules.specs.Mapper.{State, used_settings}
use Rattle.rules.specs.Network.{Term, LutNode, Input, Linear, Bootstrap, node_at}
use Rattle.rules.specs.NetworkText.{Net, NodeLine, small, good_terms, good_sum, sources, names, unknown, any_bad_source, text_conditions, admission_conditions}
use Rattle.theorems.specs.Admissible.{Passes, pass_at, lin_passes, boot_passes}
use Rattle.theorems.specs.Bits.{bit_at}
use Rattle.theorems.specs.FittingCones.{known_some}
use Rattle.theorems.specs.LineBits.{NodeBits, LineBits}
use Rattle.theorems.specs.LinearTables.{span_table}
use Rattle.theorems.specs.Names.{names-append, names-count, names-inputs}
use Rattle.theorems.specs.Readings.{NoneMet}
use Rattle.theorems.specs.SettingLimits.{limits_m}
use Rattle.theorems.specs.SoundCircuits.{GoodName, name_short, GoodNames, Sound}
use Rattle.mapped.specs.ConeValid.{standing_valid}
use Rattle.mapped.specs.Cones.{Standing, standing_shape}
use Rattle.mapped.specs.KnownGates.{Known}
use Rattle.mapped.specs.Store.{net_for, Sources, Store}
use Rattle.mapped.proofs.Whole.{used_limits, reached_known}
use Rattle.retuning.specs.GoodState.{GoodTerm, GoodNode, GoodCone, GoodState}
use Rattle.retuning.specs.Retune.{before}

-- ---- A node that passes admission.

term_good : (ns : List LutNode) (ts : List Term) → good_terms ts ≡ true → any_bad_source ns (sources ts) ≡ false → (k : ℕ) (d : Term) → k < length ts
    → GoodTerm (length ns) (get_or ts k d)
unfolding good_terms small sources any_bad_source unknown
term_good ns [] e f k d h = absurd (omega arith)
term_good ns (t ∷ ts) e f zero d h =
    record {
      coef = leb-true (nat_abs t.coef) 31 (both_left (leb (nat_abs t.coef) 31) _ (both_left (leb (nat_abs t.coef) 31 && not (eqb (nat_abs t.coef) 0)) (good_terms ts) e));
      node = leb-false (length ns) t.node (neither_left (leb (length ns) t.node) _ (neither_left _ (any_bad_source ns (sources ts)) f));
    }
term_good ns (t ∷ ts) e f (suc k) d h = term_good ns ts (both_right _ (good_terms ts) e) (neither_right _ (any_bad_source ns (sources ts)) f) k d (omega arith)

-- a byte of a name
byte_small : (b : ℕ) → is_name_byte b ≡ true → b < 256
unfolding is_name_byte
byte_small b e =
    ⊎_elim
    (λ (f : ((leb 97 b && leb b 122) || (leb 48 b && leb b 57)) ≡ true). ⊎_elim
    (λ (g : (leb 97 b && leb b 122) ≡ true). let l = leb-true b 122 (both_right (leb 97 b) (leb b 122) g) in omega arith)
    (λ (g : (leb 48 b && leb b 57) ≡ true). let l = leb-true b 57 (both_right (leb 48 b) (leb b 57) g) in omega arith)
    (or_cases (leb 97 b && leb b 122) (leb 48 b && leb b 57) f))
    (λ (f : eqb b 95 ≡ true). let l = eqb-true b 95 f in omega arith)
    (or_cases ((leb 97 b && leb b 122) || (leb 48 b && leb b 57)) (eqb b 95) e)

name_good : (name : List ℕ) → GoodName name → (length name ≤ 16) × ((k : ℕ) → get_or name k 0 < 256)
unfolding GoodName
name_good name g = (name_short name g, by)
  where
    by : (k : ℕ) → get_or name k 0 < 256
    by k =
        ⊎_elim (λ (h : k < length name). byte_small (get_or name k 0) (T-is _ (g.1 k h)))
        (λ (h : length name ≤ k). rw (get_or-eq_default name 0 {n = k} h) (omega arith))
        (lt_or_le k (length name))

node_good : (n : Net) (ns : List LutNode) (x : LutNode) → Passes n ns [] (NodeLine x) → GoodNames (names (x ∷ [])) → GoodNode (length ns) x
unfolding GoodNode Passes NoneMet admission_conditions text_conditions good_sum small LineBits NodeBits names GoodNames
node_good n ns (Input g) p named = let r = name_good g.name named.0 in (r.0, r.1, p.1)
node_good n ns (Linear c ts) p named =
    let good = not-false (good_sum c ts) p.0.1.1.1.0 in
    let first = both_left (leb (nat_abs c) 31 && good_terms ts) _ good in
    let rest = both_right (leb (nat_abs c) 31 && good_terms ts) _ good in (
      leb-true (length ts) 11 (both_right (leb 1 (length ts)) _ (both_left (leb 1 (length ts) && leb (length ts) 11) _ rest)),
      leb-true (nat_abs c) 31 (both_left (leb (nat_abs c) 31) (good_terms ts) first),
      term_good ns ts (both_right (leb (nat_abs c) 31) (good_terms ts) first) (lin_passes n ns c ts p).sources_in,
    )
node_good n ns (Bootstrap i table) p named =
    let b = boot_passes n ns i table p in (b.earlier, ltb-false 32 (length table) p.0.1.1.1.0, λ k. bit_at table k b.bits)

-- ---- The nodes of a store.

named_at : (xs : List LutNode) → GoodNames (names xs) → (i : ℕ) → i < length xs → GoodNames (names (node_at xs i ∷ []))
unfolding names GoodNames node_at
named_at [] g i l = absurd (omega arith)
named_at (Input a ∷ xs) g zero l = (g.0, tt)
named_at (Linear c ts ∷ xs) g zero l = tt
named_at (Bootstrap j table ∷ xs) g zero l = tt
named_at (Input a ∷ xs) g (suc i) l = named_at xs g.1 i (omega arith)
named_at (Linear c ts ∷ xs) g (suc i) l = named_at xs g i (omega arith)
named_at (Bootstrap j table ∷ xs) g (suc i) l = named_at xs g i (omega arith)

store_named : (n : Net) (inputs : List Given) (nodes : List LutNode) → Store n inputs nodes → GoodNames (given_names inputs) → GoodNames (names nodes)
store_named n inputs nodes s g =
    let rest = nil_of (names s.rest) (names-count s.rest ∙ s.no_more) in
    subst GoodNames (sym (ap names s.first ∙ names-append (map Input inputs) s.rest ∙ rw (names-inputs inputs, rest) (append-nil (given_names inputs)))) g

store_good : (n : Net) (inputs : List Given) (nodes : List LutNode) → Store n inputs nodes → GoodNames (given_names inputs) → (i : ℕ) → i < length nodes
    → GoodNode i (node_at nodes i)
store_good n inputs nodes s g i h =
    subst (λ k. GoodNode k (node_at nodes i)) (length-take-le i nodes (omega arith))
    (node_good n (take i nodes) (node_at nodes i) (pass_at n [] nodes s.passes i h) (named_at nodes (store_named n inputs nodes s g) i h))

-- ---- A cone that stands.

source_below : (nodes : List LutNode) (ns : List ℕ) → Sources nodes ns → (i : ℕ) → i < length ns → get_or ns i 0 < length nodes
unfolding Sources
source_below nodes [] s i h = absurd (omega arith)
source_below nodes (n ∷ ns) s zero h = s.0.0
source_below nodes (n ∷ ns) s (suc i) h = source_below nodes ns s.1 i (omega arith)

cone_good : (s : Settings) → in_limits s ≡ true → (nodes : List LutNode) (c : Cone) → Standing s nodes c → Sources nodes c.support → GoodCone (length nodes) c
unfolding is_lut_valid encoding cone_span values
cone_good s limits nodes c stands sources =
    let shape = standing_shape s nodes c stands in
    let valid = standing_valid s limits nodes c stands in
    let short = leb-true (cone_span c) s.m (both_left (leb (cone_span c) s.m) _ valid) in
    record {
      few = shape.few;
      same = shape.same;
      different = shape.apart;
      below = source_below nodes c.support sources;
      narrow = omega (arith, short, span_table c.coefficients, limits_m s limits);
      rows = shape.rows;
      bits = λ i. bit_at c.truth i shape.bits;
      entries = known_some s.p (known_entries (values c) c.truth) (both_right (leb (cone_span c) s.m) _ valid);
    }

-- ---- The state when a gate is reached.

module _ (c : Circuit) (sound : Sound c) (i : ℕ) (h : i < length c.gates) (st : State) (reached : before c i ≡ Good st) where
  abbrev s : Settings
  s = used_settings c.settings

  known : Known s c.inputs st (λ bits. gate_values bits (take i c.gates)) i (length c.inputs + i)
  unfolding before
  known =
      let g = get_or c.gates i (record { bits = []; wires = []; line = 0 }) in
      let split : c.gates ≡ take i c.gates ++ (g ∷ drop (suc i) c.gates) = sym (take-append-drop i c.gates) ∙ ap (λ l. take i c.gates ++ l) (drop-cons c.gates i _ h) in
      let long = length-take-le i c.gates (omega arith) in
      let k : 0 + length (take i c.gates) ≡ i = omega arith in
      let n : length c.inputs + length (take i c.gates) ≡ length c.inputs + i = omega arith in
      subst₂ (Known s c.inputs st (λ bits. gate_values bits (take i c.gates))) k n
      (reached_known c sound (take i c.gates) (drop (suc i) c.gates) g st split reached).0

  pub reached_good : GoodState (length c.inputs + i) (length c.inputs + 6 * i) st
  reached_good =
      let cones = known.cones in
      record {
        few = known.most;
        nodes = store_good (net_for s) c.inputs st.nodes known.store sound.parts.input_names;
        cones_many = cones.many;
        cones = λ j l.
            let m = cones.each j l in
            cone_good s (used_limits c.settings sound.settings.limits) st.nodes (get_or st.cones j (constant 0)) m.standing m.sources;
      }
