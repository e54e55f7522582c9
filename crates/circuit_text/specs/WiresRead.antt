-- A gate's wires read one after another.
use Rattle.std.specs.Prelude.{◌≡◌, refl, List, ◌∷◌, ℕ, ◌<◌, length}
use Rattle.std.proofs.Math.Path.{sym, ap}
use Rattle.std.proofs.Common.{◌∙◌}
use Rattle.std.proofs.Math.Option.{Option, none, some}
use Rattle.rules.specs.declared.Wire.{Wire}
use Rattle.rules.specs.Form.{Piece, Reader, give, onward, ◌>>◌, word, many, wire}
use Rattle.text.specs.Capped.{capped, exact_some, exact_none}
use Rattle.text.specs.Many.{Takes, takes_then, takes_word, keeps_wire, many_none, many_some}
use Rattle.forms.specs.Wire.{cap_wire}
use Rattle.circuit_conditions.specs.declared.GateWires.{GateWires}
use Rattle.circuit_conditions.specs.Wires.{with_wire, with_wires}

unfoldable pub spaced_wire : Reader Wire
spaced_wire = word " " >> wire

pub takes_spaced : Takes spaced_wire
unfolding spaced_wire
takes_spaced = takes_then (takes_word _ _) (λ _. keeps_wire)

-- What the wires come to, those in v before them.
unfoldable pub onto : ℕ → GateWires → Option (Piece (List Wire)) → Option (Piece GateWires)
onto n v none = none
onto n v (some p) = some (record { value = with_wires n v p.value; rest = p.rest })

unfoldable pub wires_from : ℕ → GateWires → List ℕ → Option (Piece GateWires)
wires_from n v s = onto n v (many spaced_wire s)

onto_cons : (n : ℕ) (v : GateWires) (u : Wire) (o : Option (Piece (List Wire))) → onto n v (onward o (λ ts. give (u ∷ ts))) ≡ onto n (with_wire n v (cap_wire u)) o
unfolding onto onward with_wires
onto_cons n v u none = refl
onto_cons n v u (some p) = refl

pub wires_done : (n : ℕ) (v : GateWires) (s : List ℕ) → none ≡ capped cap_wire (spaced_wire s) → give v s ≡ wires_from n v s
unfolding wires_from onto with_wires
wires_done n v s h = sym (ap (onto n v) (many_none spaced_wire takes_spaced s (exact_none cap_wire _ (sym h))))

pub wires_next : (n : ℕ) (v : GateWires) (s : List ℕ) {w : Wire} {x : List ℕ} → give w x ≡ capped cap_wire (spaced_wire s)
    → wires_from n (with_wire n v w) x ≡ wires_from n v s
unfolding wires_from
wires_next n v s {w} {x} h =
    let e = exact_some cap_wire _ (sym h) in
    ap (λ u. onto n (with_wire n v u) (many spaced_wire x)) e.2
    ∙ (sym (onto_cons n v e.0 (many spaced_wire x)) ∙ sym (ap (onto n v) (many_some spaced_wire takes_spaced s _ e.1)))

pub wires_later : (s : List ℕ) {w : Wire} {x : List ℕ} → give w x ≡ capped cap_wire (spaced_wire s) → length x < length s
wires_later s h = let e = exact_some cap_wire _ (sym h) in takes_spaced s _ e.1
