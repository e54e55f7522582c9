-- The parts of a kept state in a buffer, and what its header tells.
use Rattle.std.specs.Prelude.{◌≡◌, List, ◌++◌, ℕ, ◌-◌, ◌≤◌, length, take, drop}
use mathlib.Core.List.{flat_map}
use Rattle.std.proofs.Common.{sym, ap, ◌∙◌, arith, length-append, take_at, take-take}
use Rattle.std.proofs.lemmas.List.{drop_at, drop-take}
use Rattle.laws.specs.Tail.{tail_part}
use Rattle.rules.specs.Circuit.{Circuit}
use Rattle.rules.specs.Form.{Good}
use Rattle.rules.specs.Mapper.{State}
use Rattle.theorems.specs.SoundCircuits.{Sound}
use Rattle.theorems.specs.SoundTexts.{read_sound}
use Rattle.retuning.specs.GoodState.{GoodState}
use Rattle.retuning.specs.HeaderBytes.{header-length, header_same, zero_no-header}
use Rattle.retuning.specs.Kept.{two_bytes, padded, node_cell, cone_cell, header_bytes, state_bytes, kept_bytes, header_length, kept_length}
use Rattle.retuning.specs.KeptBytes.{kept-same}
use Rattle.retuning.specs.Prefix.{SamePrefix, before-same}
use Rattle.retuning.specs.Retune.{before, kept_before, Unaltered, NoState, Left}
use Rattle.retuning.specs.SoundHeader.{good_header}
use Rattle.retuning.specs.StateBytes.{nodes-length}
use Rattle.restore.specs.Standing.{StandsIn}

-- ---- Nodes and cones.

module _ {count most : ℕ} (st : State) (good : GoodState count most st) (count_fits : count ≤ 128) (most_fits : most ≤ 672) (bytes : List ℕ) (e : bytes ≡ state_bytes st) where
  abbrev nodes : List ℕ
  nodes = two_bytes (length st.nodes) ++ padded 24192 (flat_map node_cell st.nodes)

  nodes_long : length nodes ≡ 24194
  unfolding two_bytes
  nodes_long = simp length-append (omega (arith, nodes-length good count_fits most_fits))

  pub nodes_first : take 24194 bytes ≡ nodes
  unfolding state_bytes
  nodes_first = ap (take 24194) e ∙ take_at nodes _ 24194 nodes_long

  pub cones_behind : take (length bytes - 24194) (drop 24194 bytes) ≡ padded 8448 (flat_map cone_cell st.cones)
  unfolding state_bytes
  cones_behind = tail_part bytes 24194 ∙ ap (drop 24194) e ∙ drop_at nodes _ 24194 nodes_long

-- ---- The state that gates before one give.

module _ (c : Circuit) (sound : Sound c) (i : ℕ) (state : List ℕ) (st : State) (front : take kept_length state ≡ kept_bytes (kept_before c i st)) where
  pub header_first : take header_length state ≡ header_bytes c.settings c.inputs (take i c.gates) c.outputs
  unfolding kept_bytes kept_before
  header_first = sym (take-take header_length kept_length state (omega arith)) ∙ ap (take header_length) front ∙ take_at _ _ header_length (header-length (good_header c i sound))

  pub state_behind : take 32642 (drop 2062 state) ≡ state_bytes st
  unfolding kept_bytes kept_before
  state_behind = sym (drop-take 2062 32642 state) ∙ ap (drop header_length) front ∙ drop_at _ _ header_length (header-length (good_header c i sound))

-- In a buffer that nobody altered the header alone tells that the state stands there.
pub header_told : (c : Circuit) → Sound c → (i : ℕ) (state : List ℕ) → Unaltered state → take header_length state ≡ header_bytes c.settings c.inputs (take i c.gates) c.outputs
    → (st : State) × StandsIn state c i st
header_told c sound i state (NoState z) h = absurd (zero_no-header header_length state c.settings c.inputs (take i c.gates) c.outputs z h)
header_told c sound i state (Left text d e j l st m front) h =
    let good = read_sound text d e in
    let same : SamePrefix d j c i = header_same (good_header d j good) (good_header c i sound) (sym (header_first d good j state st front) ∙ h) in
    (st, (before-same d c j i st same m, front ∙ kept-same d c j i st same))
