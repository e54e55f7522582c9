-- The header of a kept state: its length, and that its parts come back from its bytes.
use Rattle.std.specs.Prelude.{◌≡◌, refl, List, [], ◌∷◌, ◌++◌, ℕ, zero, suc, ◌+◌, ◌*◌, ◌/◌, ◌%◌, ◌<◌, ◌≤◌, Bool, true, false, length, get_or, take, drop}
use Rattle.std.proofs.Common.{sym, ap, ◌∙◌, arith, length-append, append_assoc}
use Rattle.std.proofs.Math.Nat.{div-add-mod}
use Rattle.std.proofs.lemmas.List.{ext_get_or}
use mathlib.Core.List.{flat_map}
use Rattle.laws.specs.Test.{zero≢one}
use Rattle.rules.specs.declared.Limit.{Limit}
use Rattle.rules.specs.declared.Limit.TheVariants.{Unlimited, AtMost}
use Rattle.rules.specs.declared.Policy.{Policy}
use Rattle.rules.specs.declared.Policy.TheVariants.{Basic, Naive, Span}
use Rattle.rules.specs.declared.Settings.{Settings}
use Rattle.rules.specs.declared.Wire.{Wire}
use Rattle.rules.specs.declared.Wire.TheVariants.{Const, Node}
use Rattle.rules.specs.Circuit.{Given, Gate, Output}
use Rattle.retuning.specs.Kept.{Kept, two_bytes, padded, limit_bytes, policy_byte, flag_byte, settings_bytes, wire_bytes, input_cell, gate_cell, output_cell, header_bytes, kept_bytes, header_length}
use Rattle.retuning.specs.Cells.{append_same, four_same, padded-length, padded_same, CellsOf, cells-length, cells_same, table-length, table_same}
use Rattle.retuning.specs.SameGates.{SameGates}

-- ---- What a read circuit's parts satisfy.

-- With 1 added, two bytes hold it.
unfoldable pub GoodLimit : Limit → Type 0
GoodLimit Unlimited = Unit {0}
GoodLimit (AtMost k) = k + 1 < 65536

-- At most two wires, and two bits for each: 2 bits with one, 4 with two.
pub record GateShape (g : Gate) : Type 0 where
  pub wires : length g.wires ≤ 2
  pub bits : length g.bits ≡ 2 * length g.wires

pub record GoodHeader (s : Settings) (inputs : List Given) (gates : List Gate) (outputs : List Output) : Type 0 where
  pub p : s.p < 65536
  pub m : s.m < 65536
  pub t : s.t < 65536
  pub norm : GoodLimit s.norm
  pub inputs_fit : length inputs ≤ 32
  pub gates_fit : length gates ≤ 96
  pub outputs_fit : length outputs ≤ 32
  pub input_names : (i : ℕ) (d : Given) → i < length inputs → length (get_or inputs i d).name ≤ 16
  pub shapes : (i : ℕ) (d : Gate) → i < length gates → GateShape (get_or gates i d)
  pub output_names : (i : ℕ) (d : Output) → i < length outputs → length (get_or outputs i d).name ≤ 16

-- ---- Lengths.

limit-length : (l : Limit) → length (limit_bytes l) ≡ 2
unfolding limit_bytes two_bytes
limit-length Unlimited = refl
limit-length (AtMost k) = refl

pub settings-length : (s : Settings) → length (settings_bytes s) ≡ 10
unfolding settings_bytes limit_bytes two_bytes
settings-length s = omega (arith, length-append (limit_bytes s.norm) (policy_byte s.policy ∷ flag_byte s.many ∷ []), limit-length s.norm)

pub wire-length : (w : Wire) → length (wire_bytes w) ≡ 2
unfolding wire_bytes
wire-length (Const b) = refl
wire-length (Node i) = refl

pub wires-length : (ws : List Wire) → length (flat_map wire_bytes ws) ≡ 2 * length ws
wires-length ws = cells-length wire_bytes 2 ws (λ i d l. wire-length (get_or ws i d))

pub input-length : (g : Given) → length g.name ≤ 16 → length (input_cell g) ≡ 18
unfolding input_cell
input-length g h = padded-length 18 (g.weight ∷ length g.name ∷ g.name) (omega arith)

pub gate-length : (g : Gate) → GateShape g → length (gate_cell g) ≡ 9
unfolding gate_cell
gate-length g h =
    let wires = h.wires in
    padded-length 9 (length g.wires ∷ (flat_map wire_bytes g.wires ++ g.bits))
    (omega (arith, length-append (flat_map wire_bytes g.wires) g.bits, wires-length g.wires, h.bits))

pub output-length : (o : Output) → length o.name ≤ 16 → length (output_cell o) ≡ 19
unfolding output_cell
output-length o h =
    padded-length 19 (wire_bytes o.wire ++ (length o.name ∷ o.name)) (omega (arith, length-append (wire_bytes o.wire) (length o.name ∷ o.name), wire-length o.wire))

module _ {s : Settings} {inputs : List Given} {gates : List Gate} {outputs : List Output} (good : GoodHeader s inputs gates outputs) where
  inputs_cells : CellsOf input_cell 18 inputs
  inputs_cells i d l = input-length (get_or inputs i d) (good.input_names i d l)

  gates_cells : CellsOf gate_cell 9 gates
  gates_cells i d l = gate-length (get_or gates i d) (good.shapes i d l)

  outputs_cells : CellsOf output_cell 19 outputs
  outputs_cells i d l = output-length (get_or outputs i d) (good.output_names i d l)

  pub inputs-length : length (padded 576 (flat_map input_cell inputs)) ≡ 576
  inputs-length = let fit = good.inputs_fit in table-length input_cell 18 576 inputs inputs_cells (omega arith)

  pub gates-length : length (padded 864 (flat_map gate_cell gates)) ≡ 864
  gates-length = let fit = good.gates_fit in table-length gate_cell 9 864 gates gates_cells (omega arith)

  pub outputs-length : length (padded 608 (flat_map output_cell outputs)) ≡ 608
  outputs-length = let fit = good.outputs_fit in table-length output_cell 19 608 outputs outputs_cells (omega arith)

  pub header-length : length (header_bytes s inputs gates outputs) ≡ header_length
  unfolding header_bytes
  header-length = simp (length-append, settings-length s, inputs-length, gates-length, outputs-length) refl

-- ---- Fields that come back.

two_same : (a b : ℕ) → a % 256 ≡ b % 256 → a / 256 ≡ b / 256 → a ≡ b
two_same a b e f = omega (arith, div-add-mod a 256, div-add-mod b 256)

limit_same : (l k : Limit) → limit_bytes l ≡ limit_bytes k → l ≡ k
unfolding limit_bytes two_bytes
limit_same Unlimited Unlimited e = refl
limit_same Unlimited (AtMost k) e = let n : 0 ≡ k + 1 = two_same 0 (k + 1) (ap (λ l. get_or l 0 0) e) (ap (λ l. get_or l 1 0) e) in absurd (omega arith)
limit_same (AtMost k) Unlimited e = let n : k + 1 ≡ 0 = two_same (k + 1) 0 (ap (λ l. get_or l 0 0) e) (ap (λ l. get_or l 1 0) e) in absurd (omega arith)
limit_same (AtMost j) (AtMost k) e =
    let n : j + 1 ≡ k + 1 = two_same (j + 1) (k + 1) (ap (λ l. get_or l 0 0) e) (ap (λ l. get_or l 1 0) e) in
    ap AtMost (omega arith)

policy_of : ℕ → Policy
policy_of zero = Basic
policy_of (suc zero) = Naive
policy_of (suc (suc n)) = Span

policy_back : (q : Policy) → policy_of (policy_byte q) ≡ q
unfolding policy_byte policy_of
policy_back Basic = refl
policy_back Naive = refl
policy_back Span = refl

flag_same : (a b : Bool) → flag_byte a ≡ flag_byte b → a ≡ b
unfolding flag_byte
flag_same false false e = refl
flag_same false true e = absurd (zero≢one e)
flag_same true false e = absurd (zero≢one (sym e))
flag_same true true e = refl

settings_same : (s r : Settings) → settings_bytes s ≡ settings_bytes r → s ≡ r
unfolding settings_bytes two_bytes
settings_same s r e =
    let at : (i : ℕ) → get_or (settings_bytes s) i 0 ≡ get_or (settings_bytes r) i 0 = λ i. ap (λ l. get_or l i 0) e in
    let rest =
    append_same (limit_bytes s.norm) (policy_byte s.policy ∷ flag_byte s.many ∷ []) (limit_bytes r.norm) (policy_byte r.policy ∷ flag_byte r.many ∷ [])
    (limit-length s.norm ∙ sym (limit-length r.norm)) (ap (drop 6) e)
    in
    let p = two_same s.p r.p (at 0) (at 1) in
    let m = two_same s.m r.m (at 2) (at 3) in
    let t = two_same s.t r.t (at 4) (at 5) in
    let norm = limit_same s.norm r.norm rest.0 in
    let policy = sym (policy_back s.policy) ∙ ap (λ l. policy_of (get_or l 0 0)) rest.1 ∙ policy_back r.policy in
    let many = flag_same s.many r.many (ap (λ l. get_or l 1 0) rest.1) in
    λ i. record { p = p i; m = m i; t = t i; norm = norm i; policy = policy i; many = many i }

-- ---- Cells that come back.

wire_same : (v w : Wire) → wire_bytes v ≡ wire_bytes w → v ≡ w
unfolding wire_bytes
wire_same (Const a) (Const b) e = ap (λ l. Const (get_or l 1 0)) e
wire_same (Const a) (Node j) e = absurd (zero≢one (ap (λ l. get_or l 0 0) e))
wire_same (Node i) (Const b) e = absurd (zero≢one (sym (ap (λ l. get_or l 0 0) e)))
wire_same (Node i) (Node j) e = ap (λ l. Node (get_or l 1 0)) e

wires_same : (vs ws : List Wire) → length vs ≡ length ws → flat_map wire_bytes vs ≡ flat_map wire_bytes ws → vs ≡ ws
wires_same vs ws n e =
    ext_get_or (Const 0) vs ws n
    (λ i l. wire_same (get_or vs i (Const 0)) (get_or ws i (Const 0))
    (cells_same wire_bytes 2 vs ws (λ j d k. wire-length (get_or vs j d)) (λ j d k. wire-length (get_or ws j d)) n e i (Const 0) (Const 0) l))

input_same : (g h : Given) → input_cell g ≡ input_cell h → g ≡ h
unfolding input_cell padded
input_same g h e =
    let weight : g.weight ≡ h.weight = ap (λ l. get_or l 0 0) e in
    let long : length g.name ≡ length h.name = ap (λ l. get_or l 1 0) e in
    let name : g.name ≡ h.name = ap (drop 2) (padded_same 18 (g.weight ∷ length g.name ∷ g.name) (h.weight ∷ length h.name ∷ h.name) (omega (arith, long)) e) in
    λ i. record { name = name i; weight = weight i }

gate_same : (g h : Gate) → GateShape g → GateShape h → gate_cell g ≡ gate_cell h → (g.bits ≡ h.bits) × (g.wires ≡ h.wires)
unfolding gate_cell padded
gate_same g h a b e =
    let long : length g.wires ≡ length h.wires = ap (λ l. get_or l 0 0) e in
    let wires = flat_map wire_bytes g.wires in
    let others = flat_map wire_bytes h.wires in
    let bytes : length wires ≡ length others = omega (arith, wires-length g.wires, wires-length h.wires, long) in
    let whole =
    padded_same 9 (length g.wires ∷ (wires ++ g.bits)) (length h.wires ∷ (others ++ h.bits))
    (omega (arith, length-append wires g.bits, length-append others h.bits, bytes, a.bits, b.bits, long)) e
    in
    let parts = append_same wires g.bits others h.bits bytes (ap (drop 1) whole) in
    (parts.1, wires_same g.wires h.wires long parts.0)

output_same : (o u : Output) → output_cell o ≡ output_cell u → o ≡ u
unfolding output_cell padded
output_same o u e =
    let a : List ℕ = length o.name ∷ o.name in
    let b : List ℕ = length u.name ∷ u.name in
    let (wires, names) =
    append_same (wire_bytes o.wire) (a ++ _) (wire_bytes u.wire) (b ++ _) (wire-length o.wire ∙ sym (wire-length u.wire))
    (sym (append_assoc (wire_bytes o.wire) a _) ∙ e ∙ append_assoc (wire_bytes u.wire) b _)
    in
    let long : length o.name ≡ length u.name = ap (λ l. get_or l 0 0) names in
    let name : o.name ≡ u.name = ap (drop 1) (append_same a _ b _ (omega (arith, long)) names).0 in
    let wire = wire_same o.wire u.wire wires in
    λ i. record { name = name i; wire = wire i }

-- ---- The header comes back.

pub record SameHeader (s r : Settings) (is js : List Given) (gs hs : List Gate) (os us : List Output) : Type 0 where
  pub settings : s ≡ r
  pub inputs : is ≡ js
  pub gates : SameGates gs hs
  pub outputs : os ≡ us

-- What stands before the cells.
unfoldable front_bytes : Settings → List Given → List Gate → List Output → List ℕ
front_bytes s inputs gates outputs = (1 ∷ settings_bytes s) ++ (length inputs ∷ length gates ∷ length outputs ∷ [])

front-length : (s : Settings) (inputs : List Given) (gates : List Gate) (outputs : List Output) → length (front_bytes s inputs gates outputs) ≡ 14
unfolding front_bytes
front-length s inputs gates outputs = simp (length-append, settings-length s) refl

module _ {s r : Settings} {is js : List Given} {gs hs : List Gate} {os us : List Output} (good : GoodHeader s is gs os) (fine : GoodHeader r js hs us) where
  pub header_same : header_bytes s is gs os ≡ header_bytes r js hs us → SameHeader s r is js gs hs os us
  unfolding header_bytes front_bytes
  header_same e =
      let (front, inputs, gates, outputs) =
      four_same (front_bytes s is gs os) (padded 576 (flat_map input_cell is)) (padded 864 (flat_map gate_cell gs)) (padded 608 (flat_map output_cell os))
      (front_bytes r js hs us) (padded 576 (flat_map input_cell js)) (padded 864 (flat_map gate_cell hs)) (padded 608 (flat_map output_cell us))
      (front-length s is gs os ∙ sym (front-length r js hs us)) (inputs-length good ∙ sym (inputs-length fine)) (gates-length good ∙ sym (gates-length fine)) e
      in
      let l = append_same (1 ∷ settings_bytes s) _ (1 ∷ settings_bytes r) _ (ap suc (settings-length s ∙ sym (settings-length r))) front in
      let is_many : length is ≡ length js = ap (λ l. get_or l 0 0) l.1 in
      let gs_many : length gs ≡ length hs = ap (λ l. get_or l 1 0) l.1 in
      let os_many : length os ≡ length us = ap (λ l. get_or l 2 0) l.1 in
      let g : Given = record { name = []; weight = 0 } in
      let o : Output = record { name = []; wire = Const 0 } in
      record {
        settings = settings_same s r (ap (drop 1) l.0);
        inputs = ext_get_or g is js is_many
            (λ i k. input_same (get_or is i g) (get_or js i g) (table_same input_cell 18 576 is js (inputs_cells good) (inputs_cells fine) is_many inputs i g g k));
        gates = record {
          long = gs_many;
          each = λ i c d k. gate_same (get_or gs i c) (get_or hs i d) (good.shapes i c k) (fine.shapes i d (omega (arith, gs_many)))
              (table_same gate_cell 9 864 gs hs (gates_cells good) (gates_cells fine) gs_many gates i c d k);
        };
        outputs = ext_get_or o os us os_many
            (λ i k. output_same (get_or os i o) (get_or us i o) (table_same output_cell 19 608 os us (outputs_cells good) (outputs_cells fine) os_many outputs i o o k));
      }

-- ---- A buffer whose first byte is 0 holds none.

first_taken : (n : ℕ) (bytes rest : List ℕ) → take n bytes ≡ 1 ∷ rest → get_or bytes 0 0 ≡ 0 → ⊥
first_taken zero bytes rest e z = zero≢one (ap (λ l. get_or l 0 0) e)
first_taken (suc n) [] rest e z = zero≢one (ap (λ l. get_or l 0 0) e)
first_taken (suc n) (b ∷ bytes) rest e z = zero≢one (sym z ∙ ap (λ l. get_or l 0 0) e)

pub zero_no-header : (n : ℕ) (bytes : List ℕ) (s : Settings) (inputs : List Given) (gates : List Gate) (outputs : List Output)
    → get_or bytes 0 0 ≡ 0 → take n bytes ≡ header_bytes s inputs gates outputs → ⊥
unfolding header_bytes
zero_no-header n bytes s inputs gates outputs z e = first_taken n bytes _ e z

pub zero_no-state : (n : ℕ) (bytes : List ℕ) (k : Kept) → get_or bytes 0 0 ≡ 0 → take n bytes ≡ kept_bytes k → ⊥
unfolding kept_bytes header_bytes
zero_no-state n bytes k z e = first_taken n bytes _ e z
