-- The loop over the gates: what is left of them on the way, how many are begun, and each turn.
use Rattle.std.specs.Prelude as P
use Rattle.std.specs.Prelude.{◌≡◌, ⊤, ℕ, suc, ◌+◌, ◌*◌, ◌≤◌, ◌<◌, length, drop, IsOk, OnOk}
use Rattle.std.proofs.Math.Path.{refl, sym, ap}
use Rattle.std.proofs.Common.{subst, true≢false, ◌∙◌, add-one, drop_of_length-le, drop-cons}
use mathlib.Core.List.{List, map}
use native.Mathlib.Omega.{arith}
use Rattle.std.proofs.Math.ListN.{get_or}
use Rattle.rules.specs.declared.Reason.{Reason}
use Rattle.rules.specs.declared.Refusal.{Refusal}
use Rattle.rules.specs.declared.Settings.{Settings}
use Rattle.rules.specs.Circuit.{Output}
use Rattle.rules.specs.Cone.{Result, ok, err}
use Rattle.rules.specs.Form.{Reading, Good, Refused}
use Rattle.rules.specs.Mapper.{State, at_line, and_then, map_next, map_gates}
use Rattle.retuning.specs.Retune.{or_none, begun}
use Rattle.circuit.specs.declared.Gate as G
use Rattle.circuit.specs.View.{gate_of}
use Rattle.cone.specs.declared.Cone.{Cone}
use Rattle.nodes.specs.declared.store.Store as S
use Rattle.nodes.specs.Store.{store_of}
use Rattle.bootstrap.specs.View.{Grown, centres_same}
use Rattle.gates.specs.Wired.{Wired, state_of}
use Rattle.gates.specs.Gates.{GoodFunction, GoodGates, gate_next, next_read, state_read, Worked, grown_then}

-- what the gates from gate i on leave
unfoldable pub gates_from : Settings → List Output → List G.Gate → ℕ → S.Store → List Cone → Reading State
gates_from s outputs gates i store wires = map_gates s outputs (state_of store wires) (map gate_of (drop i gates))

-- how many of them are begun
unfoldable pub begun_from : Settings → List Output → List G.Gate → ℕ → S.Store → List Cone → ℕ
begun_from s outputs gates i store wires = begun s outputs (state_of store wires) (map gate_of (drop i gates))

-- those of the gates behind a gate
counted : Reading State → (State → ℕ) → ℕ
counted (Good st) next = next st
counted (Refused k line) next = 0

counted_is : (line : ℕ) (r : Result State) (next : State → ℕ) → or_none r next ≡ counted (at_line line r) next
unfolding or_none counted at_line
counted_is line (ok st) next = refl
counted_is line (err k) next = refl

module _ (s : Settings) (outputs : List Output) (gates : List G.Gate) where
  pub gates_start : (store : S.Store) (wires : List Cone) → gates_from s outputs gates 0 store wires ≡ map_gates s outputs (state_of store wires) (map gate_of gates)
  unfolding gates_from
  gates_start store wires = refl

  pub begun_start : (store : S.Store) (wires : List Cone) → begun_from s outputs gates 0 store wires ≡ begun s outputs (state_of store wires) (map gate_of gates)
  unfolding begun_from
  begun_start store wires = refl

  module _ (i : ℕ) (d : G.Gate) (h : i < length gates) (store : S.Store) (wires : List Cone) (last : S.Store) (slots : List Cone) (r : P.Result ⊤ Refusal)
      (e : state_read last slots r ≡ at_line (get_or gates i d).line (gate_next s outputs (state_of store wires) (get_or gates i d).function)) where
    then_gates : State → Reading State
    then_gates st = map_gates s outputs st (map gate_of (drop (suc i) gates))

    then_begun : State → ℕ
    then_begun st = begun s outputs st (map gate_of (drop (suc i) gates))

    gates_next : gates_from s outputs gates i store wires ≡ and_then (state_read last slots r) then_gates
    unfolding gates_from map_gates gate_next map_next then_gates
    gates_next = rw (e, drop-cons gates i d h) refl

    begun_next : begun_from s outputs gates i store wires ≡ 1 + counted (state_read last slots r) then_begun
    unfolding begun_from begun gate_next map_next then_begun
    begun_next = rw (e, drop-cons gates i d h) (ap (λ n. 1 + n) (counted_is (get_or gates i d).line _ then_begun))

    -- it is refused, and none behind it is begun
    pub turn_refused : (k : Refusal) → r ≡ P.Err k → (x : P.Result ⊤ Refusal) → x ≡ P.Err k
        → (state_read last slots x ≡ gates_from s outputs gates i store wires) × (begun_from s outputs gates i store wires ≡ 1)
    unfolding state_read and_then counted
    turn_refused k q x a = (
      ap (state_read last slots) a ∙ ap (λ y. and_then (state_read last slots y) then_gates) (sym q) ∙ sym gates_next,
      begun_next ∙ ap (λ y. 1 + counted (state_read last slots y) then_begun) q,
    )

    -- or the next gate's turn comes
    pub turn-next : (k : ⊤) → r ≡ P.Ok k
        → (gates_from s outputs gates (i + 1) last slots ≡ gates_from s outputs gates i store wires)
        × (begun_from s outputs gates i store wires ≡ 1 + begun_from s outputs gates (i + 1) last slots)
    unfolding gates_from begun_from state_read and_then counted then_gates then_begun
    turn-next k q =
        rw add-one (
          ap (λ y. and_then (state_read last slots y) then_gates) (sym q) ∙ sym gates_next,
          begun_next ∙ ap (λ y. 1 + counted (state_read last slots y) then_begun) q,
        )

  pub gates_done : (i : ℕ) (store : S.Store) (wires : List Cone) → length gates ≤ i → state_read store wires (P.Ok tt) ≡ gates_from s outputs gates i store wires
  unfolding gates_from state_read map_gates
  gates_done i store wires h = rw (drop_of_length-le gates {i = i} h) refl

  pub begun_done : (i : ℕ) (store : S.Store) (wires : List Cone) → length gates ≤ i → begun_from s outputs gates i store wires ≡ 0
  unfolding begun_from begun
  begun_done i store wires h = rw (drop_of_length-le gates {i = i} h) refl

-- a refusal gets its line
pub lined : (line : ℕ) (Gives : Reason → Refusal → Type 0) → ((e : Reason) (d : Refusal) → Gives e d → d ≡ record { reason = e; line = line }) → (next : P.Result ⊤ Reason) (r : P.Result ⊤ Refusal)
    → P.MatchResult next (λ x. r ≡ P.Ok x) (λ e. P.IsErrAnd r (Gives e)) → (store : S.Store) (wires : List Cone) → state_read store wires r ≡ at_line line (next_read store wires next)
unfolding at_line next_read state_read
lined line Gives told (P.Ok x) r h store wires = ap (state_read store wires) h
lined line Gives told (P.Err e) (P.Err d) h store wires = ap (λ (k : Refusal). state_read store wires (P.Err k)) (told e d h)
lined line Gives told (P.Err e) (P.Ok x) h store wires = absurd h

pub worked_next : {p : ℕ} {old mid new : S.Store} {wires slots : List Cone} (i m : ℕ) → Worked p old (6 * i) mid wires (m + i) → Worked p mid 6 new slots (length wires + 1)
    → Worked p old (6 * (i + 1)) new slots (m + (i + 1))
worked_next {p} {old} {mid} {new} {wires} {slots} i m a b =
    let c = a.wired.count in
    let q : length wires + 1 ≡ m + (i + 1) = omega arith in
    let k : 6 * i + 6 ≡ 6 * (i + 1) = omega arith in
    record { wired = subst (Wired new slots) q b.wired; grown = subst (λ j. Grown p old j new) k (grown_then a.grown b.grown) }

pub worked_start : {p : ℕ} (store : S.Store) (wires : List Cone) (n : ℕ) → Wired store wires n → Worked p store (6 * 0) store wires (n + 0)
worked_start store wires n w =
    let q : n ≡ n + 0 = omega arith in
    record { wired = subst (Wired store wires) q w; grown = record { least = omega arith; most = omega arith; centred = centres_same } }

-- what a gate that is next asks
pub next_asks : {p : ℕ} (n : ℕ) (gates : List G.Gate) → GoodGates n gates → (i : ℕ) (d : G.Gate) → i < length gates → (old store : S.Store) (wires : List Cone)
    → length (store_of old) + 6 * length gates ≤ 672 → Worked p old (6 * i) store wires (n + i)
    → (length (store_of store) + 6 ≤ 672) × ((length wires < 128) × (Wired store wires (length wires) × GoodFunction (length wires) (get_or gates i d).function))
next_asks n gates g i d h old store wires e w =
    let a = g.few in
    let c = w.wired.count in
    let m = w.grown.most in (
      omega arith,
      (omega arith, (subst (Wired store wires) (sym c) w.wired, subst (λ k. GoodFunction k (get_or gates i d).function) (sym c) (g.each i d h))),
    )

pub worked_as : {A : Type 0} (r : P.Result ⊤ Reason) → IsOk r → OnOk r A → A
worked_as (P.Ok t) h a = a
worked_as (P.Err e) h a = absurd (true≢false (sym h))
