-- A binary gate's definition, by the cases of each step.
use Rattle.std.specs.Prelude as P
use Rattle.std.specs.Prelude.{Some, None, Ok, Err, IfOk, ◌≡◌, Bool, List, [], ◌∷◌, ℕ, zero, suc, ◌+◌, ◌*◌, ◌≤◌, ◌<◌, length, drop}
use Rattle.std.proofs.Math.Path.{refl, ap}
use Rattle.std.proofs.Common.{add_comm, sym, ◌∙◌, add-one}
use Rattle.std.proofs.Math.Bool.{true, false}
use native.Mathlib.Omega.{arith}
use Rattle.std.proofs.Math.ListN.{get_or, take}
use Rattle.laws.specs.Test.{if◌then◌otherwise◌, T-is, is_T}
use Rattle.rules.specs.Cone as C
use Rattle.rules.specs.Composition.{all_equal}
use Rattle.rules.specs.Cone.{Result, ok, err, ◌>>=◌}
use Rattle.rules.specs.Mapper as M
use Rattle.rules.specs.Network.{LutNode}
use Rattle.rules.specs.declared.Reason.{Reason}
use Rattle.rules.specs.declared.Settings.{Settings}
use Rattle.rules.specs.Runs.{all_bits}
use Rattle.theorems.specs.Bits.{bit_at, all-bits_nil, all-bits_cons, all-bits_of}
use Rattle.theorems.specs.Truths.{through_gate}
use Rattle.cone.specs.declared.Cone.{Cone}
use Rattle.cone.specs.declared.order.Sides.{Sides}
use Rattle.cone.specs.Order.{side_of, sides_of}
use Rattle.cone.specs.View.{cone_of, constant_of}
use Rattle.nodes.specs.declared.store.Store.{Store}
use Rattle.nodes.specs.Store.{store_of}
use Rattle.gate.specs.declared.map.Mapped.{Mapped}
use Rattle.cone.specs.Sources.{Stands, below_same}
use Rattle.bootstrap.specs.View.{Grown, centres_same, centres_then}
use Rattle.gate.specs.View.{StandsBoth, Maps, mapped_of}
use Rattle.attempt.specs.Tried.{tried_of}
use Rattle.gate.specs.Gate.{room, room_of, room_of_most, Ready, Steps, Same}

-- ---- the inputs limit

module _ (s : Settings) (w : M.Sides) where
  pub second_not : M.over_limit s w ≡ false → w ≡ M.limit_second s w
  unfolding M.limit_second
  second_not e = rw e

  pub second-over : M.over_limit s w ≡ true → M.bootstrap_left s w ≡ M.limit_second s w
  unfolding M.limit_second
  second-over e = rw e

  pub sources_not : M.over_limit s w ≡ false → w ≡ M.limit_sources s w
  unfolding M.limit_sources
  sources_not e = rw e

  pub sources_on : (v : M.Sides) → M.over_limit s w ≡ true → v ≡ M.bootstrap_left s w → M.limit_second s (M.switch_inputs v) ≡ M.limit_sources s w
  unfolding M.limit_sources
  sources_on v o e = ap (λ x. M.limit_second s (M.switch_inputs x)) e ∙ rw o refl

-- ---- an attempt, and what comes next

unfoldable pub attempts : Settings → (M.Sides → Result M.Mapped) → M.Sides → Result M.Mapped
attempts s next v = M.or_else v (M.attempt s v) (next v)

unfoldable pub nine : M.Sides → Result M.Mapped
nine v = err 9

pub third_is : (s : Settings) (w : M.Sides) → attempts s nine (M.bootstrap_right s w) ≡ M.third_attempt s w
unfolding attempts nine M.third_attempt
third_is s w = refl

pub second_is : (s : Settings) (w : M.Sides) → attempts s (M.third_attempt s) (M.bootstrap_left s w) ≡ M.second_attempt s w
unfolding attempts M.second_attempt
second_is s w = refl

pub binary_is : (s : Settings) (nodes : List LutNode) (w : M.Sides) (left right : _) (gate : List ℕ) → w ≡ M.larger_first (M.sides nodes left right gate)
    → attempts s (M.second_attempt s) (M.limit_sources s w) ≡ M.map_binary_gate s nodes left right gate
unfolding attempts M.map_binary_gate
binary_is s nodes w left right gate e = ap (λ v. attempts s (M.second_attempt s) (M.limit_sources s v)) e

module _ (s : Settings) (next : M.Sides → Result M.Mapped) (q v : M.Sides) (e : v ≡ q) (t : P.Option Cone) (a : tried_of t ≡ M.attempt s v) where
  step : M.or_else v (tried_of t) (next v) ≡ attempts s next q
  unfolding attempts
  step = ap (λ o. M.or_else v o (next v)) a ∙ ap (attempts s next) e

  pub step_goes : (c : Cone) → t ≡ Some c → ok (M.mapped v (cone_of c)) ≡ attempts s next q
  unfolding M.or_else
  step_goes c f = sym (ap (λ o. M.or_else v (tried_of o) (next v)) f) ∙ step

  pub step_none : t ≡ None → next v ≡ attempts s next q
  unfolding M.or_else
  step_none f = sym (ap (λ o. M.or_else v (tried_of o) (next v)) f) ∙ step

-- ---- the store grows by no more than the sides ask for

module _ {p : ℕ} {old mid : Store} {w v : Sides} (more : ℕ) (h : room_of w ≤ more) (st : Steps p old w mid v) where
  pub grows : Grown p old more mid
  grows = let m = st.most in record { least = st.least; most = omega arith; centred = st.centred }

  pub maps_wider : (new : Store) (r : P.Result Mapped Reason) → IfOk r (Maps p mid (room_of v) new) → IfOk r (Maps p old more new)
  maps_wider new (Err r) k = tt
  maps_wider new (Ok m) k =
      let a = st.least in let b = st.most in let l = k.grown.least in let u = k.grown.most in
      record {
        grown = record { least = omega arith; most = omega arith; centred = centres_then st.centred k.grown.centred };
        stands = k.stands;
        first = k.first;
        second = k.second;
      }

-- ---- steps of both sides

pub steps_none : {p : ℕ} {store : Store} {w : Sides} → Ready store w → Steps p store w store w
steps_none r = record { ready = r; least = omega arith; most = omega arith; centred = centres_same }

switched-bits : (gate : List ℕ) → all_bits gate ≡ true → all_bits (get_or gate 0 0 ∷ get_or gate 2 0 ∷ get_or gate 1 0 ∷ get_or gate 3 0 ∷ []) ≡ true
switched-bits gate e = T-is _ (all-bits_of (get_or gate 0 0 ∷ get_or gate 2 0 ∷ get_or gate 1 0 ∷ get_or gate 3 0 ∷ []) at)
  where
    at : (i : ℕ) → i < 4 → get_or (get_or gate 0 0 ∷ get_or gate 2 0 ∷ get_or gate 1 0 ∷ get_or gate 3 0 ∷ []) i 0 ≤ 1
    at zero h = bit_at gate 0 (is_T _ e)
    at (suc zero) h = bit_at gate 2 (is_T _ e)
    at (suc (suc zero)) h = bit_at gate 1 (is_T _ e)
    at (suc (suc (suc zero))) h = bit_at gate 3 (is_T _ e)
    at (suc (suc (suc (suc i)))) h = absurd (omega arith)

-- the sides switched
module _ (w v : Sides) (is : (nodes : List LutNode) → sides_of nodes v ≡ M.switch_inputs (sides_of nodes w)) (places : (v.left ≡ w.right) × (v.right ≡ w.left)) where
  pub switched-gate : all_bits w.gate ≡ true → all_bits v.gate ≡ true
  unfolding sides_of M.switch_inputs
  switched-gate b = ap (λ x. all_bits x.gate) (is []) ∙ switched-bits w.gate b

  pub switched_both : (count : ℕ) → StandsBoth count w → StandsBoth count v
  switched_both count b = record { left = rw places.0 b.right; right = rw places.1 b.left }

  switched-room : room_of v ≡ room_of w
  unfolding room_of
  switched-room =
      let l = ap (λ x. room (cone_of x.cone)) places.0 in
      let r = ap (λ x. room (cone_of x.cone)) places.1 in
      omega arith

  pub switched_ready : (store : Store) → Ready store w → Ready store v
  switched_ready store r = record { both = switched_both (length (store_of store)) r.both; bits = switched-gate r.bits; fits = rw switched-room r.fits }

  -- a step behind another one
  pub steps_on : {p : ℕ} {old mid new : Store} {first last : Sides} → Steps p old first mid w → Steps p mid v new last → Steps p old first new last
  steps_on a b =
      let e = switched-room in let k = a.least in let l = b.least in let m = a.most in let n = b.most in
      record { ready = b.ready; least = omega arith; most = omega arith; centred = centres_then a.centred b.centred }

-- ---- both sides of a gate at first

module _ (left right : Cone) (gate : List ℕ) where
  abbrev pub unswitched : Sides
  unswitched = record { left = record { cone = left; booted = false }; right = record { cone = right; booted = false }; gate = gate; switched = false }

  module _ (nodes : List LutNode) where
    pub sides_switched : (v : Sides) → C.less (C.cone_order_key nodes (cone_of left)) (C.cone_order_key nodes (cone_of right)) ≡ true
        → sides_of nodes v ≡ M.switch_inputs (sides_of nodes unswitched) → sides_of nodes v ≡ M.larger_first (M.sides nodes (cone_of left) (cone_of right) gate)
    unfolding M.larger_first M.sides sides_of side_of
    sides_switched v t e = rw t e

    pub sides_kept : C.less (C.cone_order_key nodes (cone_of left)) (C.cone_order_key nodes (cone_of right)) ≡ false
        → sides_of nodes unswitched ≡ M.larger_first (M.sides nodes (cone_of left) (cone_of right) gate)
    unfolding M.larger_first M.sides sides_of side_of
    sides_kept t = rw t

  pub same_switched : (v : Sides) → ((nodes : List LutNode) → sides_of nodes v ≡ M.switch_inputs (sides_of nodes unswitched)) → (v.left ≡ unswitched.right) × (v.right ≡ unswitched.left)
      → Same left right gate v
  same_switched v e p =
      record { stands = λ count l r. switched_both unswitched v e p count (record { left = l; right = r }); bits = λ b. switched-gate unswitched v e p b }

  pub same_kept : Same left right gate unswitched
  same_kept = record { stands = λ count l r. record { left = l; right = r }; bits = λ b. b }

-- ---- what a gate gives

-- an attempt's cone
module _ (store : Store) (w : Sides) (c : Cone) (first second : P.Option Cone) where
  pub mapped_switched : w.switched ≡ true → tried_of first ≡ M.update (side_of w.right) → tried_of second ≡ M.update (side_of w.left)
      → mapped_of store (Ok (record { cone = c; first = first; second = second })) ≡ ok (M.mapped (sides_of (store_of store) w) (cone_of c))
  unfolding mapped_of M.mapped sides_of
  mapped_switched e f g = rw (e, f, g) refl

  pub mapped_kept : w.switched ≡ false → tried_of first ≡ M.update (side_of w.left) → tried_of second ≡ M.update (side_of w.right)
      → mapped_of store (Ok (record { cone = c; first = first; second = second })) ≡ ok (M.mapped (sides_of (store_of store) w) (cone_of c))
  unfolding mapped_of M.mapped sides_of
  mapped_kept e f g = rw (e, f, g) refl

-- ---- unary gates

module _ (s : Settings) (nodes : List LutNode) (c d : C.Cone) (gate : List ℕ) (is : d ≡ through_gate c gate) where
  pub unary_equal : all_equal d.truth ≡ true → M.unchanged nodes (C.constant (get_or d.truth 0 0)) ≡ M.map_unary_gate s nodes c gate
  unfolding M.map_unary_gate through_gate
  unary_equal e = ap (λ x. M.unchanged nodes (C.constant (get_or x.truth 0 0))) is ∙ rw (t e)
    where
      t : all_equal d.truth ≡ true → all_equal (through_gate c gate).truth ≡ true
      t e = ap (λ x. all_equal x.truth) (sym is) ∙ e

  pub unary_judged : (r : Result C.Cone) → all_equal d.truth ≡ false → r ≡ C.validate_cone s nodes d → (r >>= M.unchanged nodes) ≡ M.map_unary_gate s nodes c gate
  unfolding M.map_unary_gate through_gate
  unary_judged r e q = ap (λ x. x >>= M.unchanged nodes) (q ∙ ap (C.validate_cone s nodes) is) ∙ rw (t e)
    where
      t : all_equal d.truth ≡ false → all_equal (through_gate c gate).truth ≡ false
      t e = ap (λ x. all_equal x.truth) (sym is) ∙ e

pub through_stands : (count : ℕ) (c d : Cone) (gate : List ℕ) → cone_of d ≡ through_gate (cone_of c) gate → Stands count c → Stands count d
unfolding through_gate
through_stands count c d gate e st =
    record { below = below_same count (cone_of d) (cone_of c) (ap (λ (x : C.Cone). x.support) e) st.below }

pub first_ready : (store : Store) (left right : Cone) (gate : List ℕ) (w : Sides) → Same left right gate w → length (store_of store) + 4 ≤ 672 → Stands (length (store_of store)) left
    → Stands (length (store_of store)) right → all_bits gate ≡ true → Ready store w
first_ready store left right gate w same h l r b = record { both = same.stands (length (store_of store)) l r; bits = same.bits b; fits = omega (arith, room_of_most w) }

-- ---- a constant side

pub bit_of : (c : C.Cone) (v : ℕ) → Some v ≡ constant_of c → (M.is_constant c ≡ true) × (v ≡ M.constant_value c)
unfolding constant_of
bit_of c v e = by (M.is_constant c) refl e
  where
    by : (t : Bool) → M.is_constant c ≡ t → Some v ≡ (if t then Some (M.constant_value c) otherwise None) → (M.is_constant c ≡ true) × (v ≡ M.constant_value c)
    by true f g = (f, cc)
    by false f g = absurd cc

pub no_of : (c : C.Cone) → None ≡ constant_of c → M.is_constant c ≡ false
unfolding constant_of
no_of c e = by (M.is_constant c) refl e
  where
    by : (t : Bool) → M.is_constant c ≡ t → None ≡ (if t then Some (M.constant_value c) otherwise None) → M.is_constant c ≡ false
    by true f g = absurd cc
    by false f g = f

pub two_bits : (gate : List ℕ) (i j : ℕ) → all_bits gate ≡ true → all_bits (get_or gate i 0 ∷ get_or gate j 0 ∷ []) ≡ true
two_bits gate i j e = T-is _ (all-bits_cons _ _ (bit_at gate i (is_T _ e)) (all-bits_cons _ _ (bit_at gate j (is_T _ e)) all-bits_nil))

two_of : (l : List ℕ) (n : ℕ) → n + 2 ≤ length l → get_or l n 0 ∷ get_or l (suc n) 0 ∷ [] ≡ take 2 (drop n l)
two_of (a ∷ b ∷ l) zero h = refl
two_of (a ∷ []) zero h = absurd (omega arith)
two_of [] n h = absurd (omega arith)
two_of (a ∷ l) (suc n) h = two_of l n (omega arith)

module _ (s : Settings) (nodes : List LutNode) (left right : C.Cone) (gate : List ℕ) where
  pub two_left : (v : ℕ) → M.is_constant left ≡ true → v ≡ M.constant_value left → v ≤ 1 → length gate ≡ 4
      → M.map_unary_gate s nodes right (get_or gate (2 * v) 0 ∷ get_or gate (2 * v + 1) 0 ∷ []) ≡ M.map_gate s nodes (left ∷ right ∷ []) gate
  unfolding M.map_gate
  two_left v c e h l =
      rw c
      (ap (M.map_unary_gate s nodes right)
      (ap (λ n. get_or gate (2 * v) 0 ∷ get_or gate n 0 ∷ []) (add-one (2 * v)) ∙ two_of gate (2 * v) (omega arith) ∙ ap (λ n. take 2 (drop (2 * n) gate)) e))

  pub two_right : (v : ℕ) → M.is_constant left ≡ false → M.is_constant right ≡ true → v ≡ M.constant_value right
      → M.map_unary_gate s nodes left (get_or gate v 0 ∷ get_or gate (v + 2) 0 ∷ []) ≡ M.map_gate s nodes (left ∷ right ∷ []) gate
  unfolding M.map_gate
  two_right v n c e =
      rw (n, c)
      (ap (λ k. M.map_unary_gate s nodes left (get_or gate v 0 ∷ get_or gate k 0 ∷ [])) (add_comm v 2)
      ∙ ap (λ k. M.map_unary_gate s nodes left (get_or gate k 0 ∷ get_or gate (2 + k) 0 ∷ [])) e)

  pub two_binary : M.is_constant left ≡ false → M.is_constant right ≡ false → M.map_binary_gate s nodes left right gate ≡ M.map_gate s nodes (left ∷ right ∷ []) gate
  unfolding M.map_gate
  two_binary n m = rw (n, m)
