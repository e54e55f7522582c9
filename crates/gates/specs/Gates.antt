-- The gates in turn: what is asked of them, what the loop's results stand for, and each step.
use Rattle.std.specs.Prelude as P
use Rattle.std.specs.Prelude.{◌≡◌, ⊤, Bool, false, ◌||◌, ◌↔◌, IsTrue, ℕ, ◌+◌, ◌≤◌, ◌<◌, length}
use Rattle.std.proofs.Math.Path.{refl, sym, ap}
use Rattle.std.proofs.Common.{subst, ⊎_elim, true≢false, ◌∙◌}
use Rattle.std.specs.List.{Any, list_any}
use Rattle.std.proofs.lemmas.List.{length-map, map-append}
use Rattle.std.proofs.lemmas.List.Folds.{Any-from_list_any, list_any-from_Any}
use Rattle.std.proofs.Math.Bool.{true}
use mathlib.Core.List.{List, [], ◌∷◌, ◌++◌, map}
use native.Mathlib.Omega.{arith}
use Rattle.std.proofs.Math.ListN.{get_or}
use Rattle.laws.specs.Select.{any}
use Rattle.laws.specs.Test.{if◌then◌otherwise◌, decide}
use Rattle.rules.specs.declared.Reason.{Reason}
use Rattle.rules.specs.declared.Refusal.{Refusal}
use Rattle.rules.specs.declared.Settings.{Settings}
use Rattle.rules.specs.declared.Wire.{Wire}
use Rattle.rules.specs.Circuit.{Gate, Output}
use Rattle.rules.specs.Cone as C
use Rattle.rules.specs.Cone.{Result, ok, err, ◌>>=◌}
use Rattle.rules.specs.Form.{Reading, Good, Refused}
use Rattle.rules.specs.Mapper as M
use Rattle.rules.specs.Mapper.{State, leads_to, is_forced, map_next, map_gate, cone_at, replaced, replace}
use Rattle.rules.specs.Network.{LutNode}
use Rattle.rules.specs.Refusal.{reason_number}
use Rattle.rules.specs.Runs.{all_bits}
use Rattle.rules.specs.Store.{Stored, bootstrap_cone}
use Rattle.forms.specs.declared.Output as O
use Rattle.forms.specs.Forms.{output_of}
use Rattle.circuit.specs.declared.Function.{Function}
use Rattle.circuit.specs.declared.Function.TheVariants.{Unary, Binary}
use Rattle.circuit.specs.declared.Gate as G
use Rattle.circuit.specs.View.{wires_of, answers_of}
use Rattle.cone.specs.declared.Cone.{Cone}
use Rattle.cone.specs.View.{cone_of}
use Rattle.cone.specs.Sources.{Stands}
use Rattle.nodes.specs.declared.store.Store as S
use Rattle.nodes.specs.Store.{store_of}
use Rattle.gate.specs.declared.map.Mapped.{Mapped}
use Rattle.bootstrap.specs.View.{booted_of, Boots, Grown, centres_then}
use Rattle.gate.specs.View.{tried_of, mapped_of, Maps}
use Rattle.gates.specs.Wired.{WireIn, Wired, state_of, renewed, renewed_long, some_stands_more, wired_more, renewed_cones, renewed_wired, wired_push}

-- ---- What is asked of a gate.

-- It reads the first n nodes and the constants.
abbrev pub Reads : ℕ → Function → Type 0
Reads n (Unary w answers) = WireIn n w
Reads n (Binary u v answers) = WireIn n u × WireIn n v

-- What it reads is there, and its answers are bits.
pub record GoodFunction (n : ℕ) (f : Function) : Type 0 where
  pub reads : Reads n f
  pub bits : all_bits (answers_of f) ≡ true

-- Behind n nodes, with which they are no more than there are wires.
pub record GoodGates (n : ℕ) (gates : List G.Gate) : Type 0 where
  pub few : n + length gates ≤ 128
  pub each : (i : ℕ) (d : G.Gate) → i < length gates → GoodFunction (n + i) (get_or gates i d).function

-- ---- What the results stand for.

-- The cones of a gate's wires.
abbrev pub cones_of : List Cone → Function → List C.Cone
cones_of wires f = map (cone_at (map cone_of wires)) (wires_of f)

-- What a gate leaves of its own wires' cones.
unfoldable pub settled : Function → P.Option Cone → P.Option Cone → List Cone → List Cone
settled (Unary w answers) first second wires = renewed w first wires
settled (Binary u v answers) first second wires = renewed v second (renewed u first wires)

pub settled_long : (f : Function) (first second : P.Option Cone) (wires : List Cone) → length (settled f first second wires) ≡ length wires
unfolding settled
settled_long (Unary w answers) first second wires = renewed_long w first wires
settled_long (Binary u v answers) first second wires = renewed_long v second (renewed u first wires) ∙ renewed_long u first wires

-- map_next, which does not read the gate's line
unfoldable pub gate_next : Settings → List Output → State → Function → Result State
gate_next s outputs st f = map_next s outputs st (record { bits = answers_of f; wires = wires_of f; line = 0 })

unfoldable pub next_read : S.Store → List Cone → P.Result ⊤ Reason → Result State
next_read store wires (P.Ok t) = ok (state_of store wires)
next_read store wires (P.Err r) = err (reason_number r)

unfoldable pub state_read : S.Store → List Cone → P.Result ⊤ Refusal → Reading State
state_read store wires (P.Ok t) = Good (state_of store wires)
state_read store wires (P.Err r) = Refused (reason_number r.reason) r.line

-- The store has grown by at most `more` nodes, over which n cones stand.
pub record Worked (p : ℕ) (old : S.Store) (more : ℕ) (new : S.Store) (wires : List Cone) (n : ℕ) : Type 0 where
  pub wired : Wired new wires n
  pub grown : Grown p old more new

-- ---- Which gates are forced.

unfoldable pub named : ℕ → List Output → Bool
named i outputs = any (λ (o : Output). leads_to i o.wire) outputs

unfoldable pub forced_cone : Bool → Settings → List LutNode → C.Cone → Stored
forced_cone f s nodes c = if f then bootstrap_cone s nodes c otherwise record { nodes = nodes; cone = c }

-- ---- laws: an output names the node

module _ (id : ℕ) where
  abbrev test : O.Output → Bool
  test o = leads_to id o.wire

  named_is : (os : List O.Output) → named id (map output_of os) ≡ list_any test os
  unfolding named any
  named_is [] = refl
  named_is (o ∷ os) = ap (λ b. leads_to id o.wire || b) (named_is os)

  pub any_named : (os : List O.Output) (b : Bool) → (IsTrue b ↔ Any (λ (o : O.Output). leads_to id o.wire ≡ true) os) → b ≡ named id (map output_of os)
  any_named os true h = sym (named_is os ∙ list_any-from_Any test os (h.0 refl))
  any_named os false h =
      ⊎_elim (λ e. absurd (true≢false (sym (h.1 (Any-from_list_any test os e))))) (λ e. sym (named_is os ∙ e)) (decide (list_any test os))

-- ---- laws: what a gate reads

-- the second one of a binary gate, when the first one's cone has its place
pub second_in : (n m : ℕ) (f : Function) → GoodFunction n f → m ≡ n → (u v : Wire) (l : List ℕ) → f ≡ Binary u v l → WireIn m v
second_in n m f g q u v l e =
    let r : Reads n (Binary u v l) = subst (Reads n) e g.reads in
    subst (λ k. WireIn k v) (sym q) r.1

module _ (n : ℕ) (f : Function) (g : GoodFunction n f) (l : List ℕ) where
  pub unary_bits : (w : Wire) → f ≡ Unary w l → all_bits l ≡ true
  unary_bits w e = ap (λ (k : Function). all_bits (answers_of k)) (sym e) ∙ g.bits

  pub binary_bits : (u v : Wire) → f ≡ Binary u v l → all_bits l ≡ true
  binary_bits u v e = ap (λ (k : Function). all_bits (answers_of k)) (sym e) ∙ g.bits

pub unary_is : (s : Settings) (nodes : List LutNode) (wires : List Cone) (f : Function) (w : Wire) (l : List ℕ) → f ≡ Unary w l → (c : C.Cone) → c ≡ cone_at (map cone_of wires) w
    → M.map_unary_gate s nodes c l ≡ map_gate s nodes (cones_of wires f) (answers_of f)
unfolding map_gate
unary_is s nodes wires f w l e c q =
    ap (λ k. M.map_unary_gate s nodes k l) q
    ∙ subst (λ (g : Function). M.map_unary_gate s nodes (cone_at (map cone_of wires) w) l ≡ map_gate s nodes (cones_of wires g) (answers_of g)) (sym e) refl

-- ---- laws: one gate mapped

pub grown_then : {p : ℕ} {old mid new : S.Store} {a b : ℕ} → Grown p old a mid → Grown p mid b new → Grown p old (a + b) new
grown_then {p} {old} {mid} {new} {a} {b} f g =
    let h = f.least in
    let i = f.most in
    let j = g.least in
    let k = g.most in
    record { least = omega arith; most = omega arith; centred = centres_then f.centred g.centred }

unfoldable gate_result : S.Store → Mapped → M.Mapped
gate_result store m = record { nodes = store_of store; cone = cone_of m.cone; first = tried_of m.first; second = tried_of m.second }

mapped_ok : (store : S.Store) (m : Mapped) → mapped_of store (P.Ok m) ≡ ok (gate_result store m)
unfolding mapped_of gate_result
mapped_ok store m = refl

mapped_err : (store : S.Store) (r : Reason) → mapped_of store (P.Err r) ≡ err (reason_number r)
unfolding mapped_of
mapped_err store r = refl

unfoldable next_with : Settings → Bool → List Wire → List C.Cone → M.Mapped → Result State
next_with s f ws cones m = let b = M.forced s f m in ok (record { nodes = b.nodes; cones = replaced ws m cones ++ (b.cone ∷ []) })

next_is : (s : Settings) (outputs : List Output) (st : State) (g : Gate)
    → map_next s outputs st g ≡ (map_gate s st.nodes (map (cone_at st.cones) g.wires) g.bits >>= next_with s (is_forced s outputs (length st.cones)) g.wires st.cones)
unfolding map_next next_with
next_is s outputs st g = refl

settled_cones : (f : Function) (store : S.Store) (m : Mapped) (wires : List Cone) → map cone_of (settled f m.first m.second wires) ≡ replaced (wires_of f) (gate_result store m) (map cone_of wires)
unfolding settled gate_result replaced replace
settled_cones (Unary w answers) store m wires = renewed_cones w m.first wires
settled_cones (Binary u v answers) store m wires = renewed_cones v m.second (renewed u m.first wires) ∙ ap (replace v (tried_of m.second)) (renewed_cones u m.first wires)

-- with the gate's own cone
settled_own : (f : Function) (store : S.Store) (m : Mapped) (own : Cone) (wires : List Cone)
    → map cone_of (settled f m.first m.second wires ++ (own ∷ [])) ≡ replaced (wires_of f) (gate_result store m) (map cone_of wires) ++ (cone_of own ∷ [])
settled_own f store m own wires =
    map-append cone_of (settled f m.first m.second wires) (own ∷ []) ∙ ap (λ l. l ++ (cone_of own ∷ [])) (settled_cones f store m wires)

module _ (s : Settings) (outputs : List Output) (store : S.Store) (wires : List Cone) (f : Function) (force : Bool) (ef : force ≡ is_forced s outputs (length wires)) where
  next_force : gate_next s outputs (state_of store wires) f ≡ (map_gate s (store_of store) (cones_of wires f) (answers_of f) >>= next_with s force (wires_of f) (map cone_of wires))
  unfolding state_of gate_next
  next_force =
      next_is s outputs (state_of store wires) (record { bits = answers_of f; wires = wires_of f; line = 0 })
      ∙ ap (λ b. map_gate s (store_of store) (cones_of wires f) (answers_of f) >>= next_with s b (wires_of f) (map cone_of wires))
      (ap (is_forced s outputs) (length-map wires cone_of) ∙ sym ef)

  module _ (after : S.Store) (r : P.Result Mapped Reason) (em : mapped_of after r ≡ map_gate s (store_of store) (cones_of wires f) (answers_of f)) where
    pub gate_refused : (k : Reason) → r ≡ P.Err k → (x : P.Result ⊤ Reason) → x ≡ P.Err k → (last : S.Store) (slots : List Cone) → next_read last slots x ≡ gate_next s outputs (state_of store wires) f
    unfolding next_read
    gate_refused k e x a last slots =
        ap (next_read last slots) a ∙ ap (λ y. y >>= next_with s force (wires_of f) (map cone_of wires)) (sym (mapped_err after k) ∙ ap (mapped_of after) (sym e) ∙ em) ∙ sym next_force

    module _ (m : Mapped) (e : r ≡ P.Ok m) (last : S.Store) (b : Cone) (eb : booted_of last b ≡ forced_cone force s (store_of after) (cone_of m.cone)) where
      next_boot : ok (record { nodes = (booted_of last b).nodes; cones = replaced (wires_of f) (gate_result after m) (map cone_of wires) ++ ((booted_of last b).cone ∷ []) })
          ≡ gate_next s outputs (state_of store wires) f
      unfolding forced_cone next_with gate_result M.forced
      next_boot =
          ap (λ (d : Stored). ok (record { nodes = d.nodes; cones = replaced (wires_of f) (gate_result after m) (map cone_of wires) ++ (d.cone ∷ []) })) eb
          ∙ ap (λ x. x >>= next_with s force (wires_of f) (map cone_of wires)) (sym (mapped_ok after m) ∙ ap (mapped_of after) (sym e) ∙ em)
          ∙ sym next_force

      pub gate_done : (slots : List Cone) → slots ≡ settled f m.first m.second wires ++ (b ∷ []) → next_read last slots (P.Ok tt) ≡ gate_next s outputs (state_of store wires) f
      unfolding next_read state_of booted_of
      gate_done slots t =
          ap (λ l. ok (record { nodes = store_of last; cones = l })) (ap (map cone_of) t ∙ settled_own f after m b wires) ∙ next_boot

-- the cones after a gate
settled_wired : (store : S.Store) (f : Function) (first second : P.Option Cone) (wires : List Cone) (n : ℕ) → P.IfSome first (Stands (length (store_of store)))
    → P.IfSome second (Stands (length (store_of store))) → Wired store wires n → Wired store (settled f first second wires) n
unfolding settled
settled_wired store (Unary w answers) first second wires n a b h = renewed_wired store w first wires n a h
settled_wired store (Binary u v answers) first second wires n a b h = renewed_wired store v second (renewed u first wires) n b (renewed_wired store u first wires n a h)

pub gate_wired : {p : ℕ} (store : S.Store) (wires : List Cone) (n : ℕ) (f : Function) (after : S.Store) (m : Mapped) (last : S.Store) (b : Cone) (slots : List Cone)
    → Wired store wires n → Maps p store 4 after m → Boots p after last b → slots ≡ settled f m.first m.second wires ++ (b ∷ []) → Worked p store 6 last slots (n + 1)
gate_wired store wires n f after m last b slots wired maps boots t =
    let grown = grown_then maps.grown boots.grown in
    let more : length (store_of after) ≤ length (store_of last) = boots.grown.least in
    let w0 = wired_more store last wires n wired grown.least in
    let first = some_stands_more (length (store_of after)) (length (store_of last)) _ more maps.first in
    let second = some_stands_more (length (store_of after)) (length (store_of last)) _ more maps.second in
    let w = settled_wired last f m.first m.second wires n first second w0 in
    record { wired = wired_push last _ b slots n t boots.stands w; grown = grown }

-- ---- laws: one cone forced

pub forced_yes : (force : Bool) (s : Settings) (nodes : List LutNode) (c : C.Cone) (r : Stored) → force ≡ true → r ≡ bootstrap_cone s nodes c → r ≡ forced_cone force s nodes c
unfolding forced_cone
forced_yes force s nodes c r e q = rw e q

pub forced_no : (force : Bool) (s : Settings) (store : S.Store) (c : Cone) → force ≡ false → booted_of store c ≡ forced_cone force s (store_of store) (cone_of c)
unfolding forced_cone booted_of
forced_no force s store c e = rw e refl
