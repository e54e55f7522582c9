-- The bytes of a state that the gates before one of a read circuit give: of one length, and the same bytes for the same prefix only.
use Rattle.std.specs.Prelude.{◌≡◌, refl, List, [], ◌∷◌, ◌++◌, ℕ, ◌+◌, ◌*◌, ◌<◌, length, take}
use Rattle.std.proofs.Common.{sym, ap, ap₂, ◌∙◌, arith, take_at}
use mathlib.Core.List.{flat_map}
use Rattle.rules.specs.Circuit.{Gate, Circuit}
use Rattle.rules.specs.CircuitText.{read_circuit}
use Rattle.rules.specs.Form.{Good}
use Rattle.rules.specs.Mapper.{State}
use Rattle.theorems.specs.SoundTexts.{read_sound}
use Rattle.retuning.specs.HeaderBytes.{header-length, header_same}
use Rattle.retuning.specs.Kept.{gate_cell, header_bytes, header_length, kept_bytes, kept_length}
use Rattle.retuning.specs.Prefix.{first-same, others-same, SamePrefix}
use Rattle.retuning.specs.ReachedState.{reached_good}
use Rattle.retuning.specs.Retune.{before, kept_before}
use Rattle.retuning.specs.SameGates.{SameGates}
use Rattle.retuning.specs.SoundHeader.{good_header}
use Rattle.retuning.specs.StateBytes.{kept-length}

pub kept_long : (text : List ℕ) (c : Circuit) (i : ℕ) (st : State) → read_circuit text ≡ Good c → i < length c.gates → before c i ≡ Good st
    → length (kept_bytes (kept_before c i st)) ≡ kept_length
unfolding kept_before
kept_long text c i st e h m =
    let sound = read_sound text c e in
    let inputs = sound.parts.inputs_fit in
    let gates = sound.parts.gates_fit in
    kept-length (kept_before c i st) (length c.inputs + i) (length c.inputs + 6 * i) (good_header c i sound) (reached_good c sound i h st m) (omega arith) (omega arith)

-- A prefix is told by its bytes.
pub kept_apart : (text edited : List ℕ) (c d : Circuit) (i j : ℕ) (st r : State) → read_circuit text ≡ Good c → read_circuit edited ≡ Good d
    → kept_bytes (kept_before c i st) ≡ kept_bytes (kept_before d j r) → SamePrefix c i d j
unfolding kept_bytes kept_before
kept_apart text edited c d i j st r e f same =
    let good = good_header c i (read_sound text c e) in
    let fine = good_header d j (read_sound edited d f) in
    header_same good fine
    (sym (take_at _ _ header_length (header-length good)) ∙ ap (take header_length) same ∙ take_at _ _ header_length (header-length fine))

cell-same : (a b : Gate) → (a.bits ≡ b.bits) × (a.wires ≡ b.wires) → gate_cell a ≡ gate_cell b
unfolding gate_cell
cell-same a b h = rw (h.0, h.1) refl

cells-same : (a b : List Gate) → SameGates a b → flat_map gate_cell a ≡ flat_map gate_cell b
unfolding flat_map
cells-same [] [] h = refl
cells-same [] (b ∷ hs) h = absurd (let l = h.long in omega arith)
cells-same (a ∷ gs) [] h = absurd (let l = h.long in omega arith)
cells-same (a ∷ gs) (b ∷ hs) h =
    ap₂ {C = List ℕ} (λ x y. x ++ y) (cell-same a b (first-same a b gs hs h)) (cells-same gs hs (others-same a b gs hs h))

pub kept-same : (c d : Circuit) (i j : ℕ) (st : State) → SamePrefix c i d j → kept_bytes (kept_before c i st) ≡ kept_bytes (kept_before d j st)
unfolding kept_bytes kept_before header_bytes
kept-same c d i j st h = rw (h.settings, h.inputs, h.outputs, h.gates.long, cells-same _ _ h.gates) refl
