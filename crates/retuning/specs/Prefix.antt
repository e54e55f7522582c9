-- Mapping a circuit is mapping its first gates and then the rest from what they gave; and no state depends on a gate's line.
use Rattle.std.specs.Prelude.{◌≡◌, refl, List, [], ◌∷◌, ◌++◌, ℕ, suc, ◌+◌, length, take, drop}
use Rattle.std.proofs.Common.{sym, ap, ◌∙◌, arith}
use Rattle.std.proofs.lemmas.List.{take-append-drop}
use Rattle.laws.specs.Test.{zero≢one}
use Rattle.rules.specs.declared.Settings.{Settings}
use Rattle.rules.specs.Circuit.{Gate, Output, Circuit}
use Rattle.rules.specs.Cone.{Result, ok, err}
use Rattle.rules.specs.Form.{Good, Refused}
use Rattle.rules.specs.Mapper.{State, map_next, at_line, and_then, map_gates, used_settings, start, finish, map_with, map_circuit}
use Rattle.theorems.specs.Results.{good_same, good_then}
use Rattle.retuning.specs.HeaderBytes.{SameHeader}
use Rattle.retuning.specs.SameGates.{SameGates}
use Rattle.retuning.specs.Retune.{or_none, begun, before}

module _ (s : Settings) (outputs : List Output) where
  -- ---- Some gates, and others behind them.

  pub gates-append : (st : State) (a b : List Gate) → map_gates s outputs st (a ++ b) ≡ and_then (map_gates s outputs st a) (λ r. map_gates s outputs r b)
  unfolding map_gates at_line and_then
  gates-append st [] b = refl
  gates-append st (g ∷ a) b = by (map_next s outputs st g) (λ r. gates-append r a b)
    where
      by : (x : Result State) → ((r : State) → map_gates s outputs r (a ++ b) ≡ and_then (map_gates s outputs r a) (λ q. map_gates s outputs q b))
          → and_then (at_line g.line x) (λ r. map_gates s outputs r (a ++ b))
          ≡ and_then (and_then (at_line g.line x) (λ r. map_gates s outputs r a)) (λ q. map_gates s outputs q b)
      by (ok r) next = next r
      by (err k) next = refl

  -- Those that are mapped were all begun.
  pub begun-append : (st r : State) (a b : List Gate) → map_gates s outputs st a ≡ Good r → begun s outputs st (a ++ b) ≡ length a + begun s outputs r b
  unfolding map_gates begun or_none
  begun-append st r [] b e = rw (good_same st r e) (omega arith)
  begun-append st r (g ∷ a) b e =
      let p = good_then g.line (map_next s outputs st g) (λ q. map_gates s outputs q a) r e in
      let next = begun-append p.0 r a b p.2 in
      rw p.1 (omega arith)

  pub begun-all : (st r : State) (a : List Gate) → map_gates s outputs st a ≡ Good r → begun s outputs st a ≡ length a
  unfolding map_gates begun or_none
  begun-all st r [] e = refl
  begun-all st r (g ∷ a) e =
      let p = good_then g.line (map_next s outputs st g) (λ q. map_gates s outputs q a) r e in
      let next = begun-all p.0 r a p.2 in
      rw p.1 (omega arith)

  -- Behind one that is refused none is begun.
  pub begun-refused : (st : State) (a b : List Gate) (k line : ℕ) → map_gates s outputs st a ≡ Refused k line → begun s outputs st (a ++ b) ≡ begun s outputs st a
  unfolding map_gates at_line and_then begun or_none
  begun-refused st [] b k line e = absurd (zero≢one (cc))
  begun-refused st (g ∷ a) b k line e = by (map_next s outputs st g) (λ r. begun-refused r a b k line) e
    where
      by : (x : Result State) → ((r : State) → map_gates s outputs r a ≡ Refused k line → begun s outputs r (a ++ b) ≡ begun s outputs r a)
          → and_then (at_line g.line x) (λ r. map_gates s outputs r a) ≡ Refused k line
          → 1 + or_none x (λ r. begun s outputs r (a ++ b)) ≡ 1 + or_none x (λ r. begun s outputs r a)
      by (ok r) next f = ap (λ n. 1 + n) (next r f)
      by (err j) next f = refl

-- ---- A circuit, and one of its gates.

module _ (c : Circuit) (i : ℕ) where
  abbrev s : Settings
  s = used_settings c.settings

  gates-split : map_gates s c.outputs (start c) c.gates ≡ and_then (before c i) (λ r. map_gates s c.outputs r (drop i c.gates))
  unfolding before
  gates-split =
      ap (λ gs. map_gates s c.outputs (start c) gs) (sym (take-append-drop i c.gates))
      ∙ gates-append s c.outputs (start c) (take i c.gates) (drop i c.gates)

  pub gates-continued : (st : State) → before c i ≡ Good st → map_gates s c.outputs (start c) c.gates ≡ map_gates s c.outputs st (drop i c.gates)
  unfolding and_then
  gates-continued st e = gates-split ∙ ap (λ x. and_then x (λ r. map_gates s c.outputs r (drop i c.gates))) e

  pub circuit-continued : (st : State) → before c i ≡ Good st → map_circuit c ≡ and_then (map_gates s c.outputs st (drop i c.gates)) (finish s c.outputs)
  unfolding map_circuit map_with
  circuit-continued st e = ap (λ x. and_then x (finish s c.outputs)) (gates-continued st e)

  pub circuit-refused : (k line : ℕ) → before c i ≡ Refused k line → map_circuit c ≡ Refused k line
  unfolding and_then map_circuit map_with
  circuit-refused k line e = rw (gates-split, e) refl

  pub begun-continued : (st : State) → before c i ≡ Good st
      → begun s c.outputs (start c) c.gates ≡ length (take i c.gates) + begun s c.outputs st (drop i c.gates)
  unfolding before
  begun-continued st e =
      ap (λ gs. begun s c.outputs (start c) gs) (sym (take-append-drop i c.gates))
      ∙ begun-append s c.outputs (start c) st (take i c.gates) (drop i c.gates) e

  pub begun-refused_before : (k line : ℕ) → before c i ≡ Refused k line → begun s c.outputs (start c) c.gates ≡ begun s c.outputs (start c) (take i c.gates)
  unfolding before
  begun-refused_before k line e =
      ap (λ gs. begun s c.outputs (start c) gs) (sym (take-append-drop i c.gates))
      ∙ begun-refused s c.outputs (start c) (take i c.gates) (drop i c.gates) k line e

-- ---- Lines aside.

pub first-same : (a b : Gate) (gs hs : List Gate) → SameGates (a ∷ gs) (b ∷ hs) → (a.bits ≡ b.bits) × (a.wires ≡ b.wires)
first-same a b gs hs h = h.each 0 a b (omega arith)

pub others-same : (a b : Gate) (gs hs : List Gate) → SameGates (a ∷ gs) (b ∷ hs) → SameGates gs hs
others-same a b gs hs h = record { long = let e = h.long in omega arith; each = λ i d e l. h.each (suc i) d e (omega arith) }

module _ (s : Settings) (outputs : List Output) where
  next-same : (st : State) (a b : Gate) → (a.bits ≡ b.bits) × (a.wires ≡ b.wires) → map_next s outputs st a ≡ map_next s outputs st b
  unfolding map_next
  next-same st a b h = rw (h.0, h.1) refl

  pub gates-same : (st r : State) (a b : List Gate) → SameGates a b → map_gates s outputs st a ≡ Good r → map_gates s outputs st b ≡ Good r
  unfolding map_gates at_line and_then
  gates-same st r [] [] h e = e
  gates-same st r [] (b ∷ hs) h e = absurd (let l = h.long in omega arith)
  gates-same st r (a ∷ gs) [] h e = absurd (let l = h.long in omega arith)
  gates-same st r (a ∷ gs) (b ∷ hs) h e =
      let p = good_then a.line (map_next s outputs st a) (λ q. map_gates s outputs q gs) r e in
      rw (sym (next-same st a b (first-same a b gs hs h)), p.1) (gates-same p.0 r gs hs (others-same a b gs hs h) p.2)

-- Two circuits that are the same as far as these gates.
abbrev pub SamePrefix : Circuit → ℕ → Circuit → ℕ → Type 0
SamePrefix c i d j = SameHeader c.settings d.settings c.inputs d.inputs (take i c.gates) (take j d.gates) c.outputs d.outputs

pub before-same : (c d : Circuit) (i j : ℕ) (st : State) → SamePrefix c i d j → before c i ≡ Good st → before d j ≡ Good st
unfolding before start
before-same c d i j st h e =
    rw (sym h.settings, sym h.inputs, sym h.outputs) (gates-same (used_settings c.settings) c.outputs (start c) st (take i c.gates) (take j d.gates) h.gates e)
