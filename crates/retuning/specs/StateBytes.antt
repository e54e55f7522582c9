-- The length of the nodes and cones in a kept state, and of the whole.
use Rattle.std.specs.Prelude.{◌≡◌, refl, List, ◌++◌, map, ℕ, ◌+◌, ◌*◌, ◌≤◌, length, get_or}
use mathlib.Core.List.{flat_map}
use Rattle.std.proofs.Common.{ap, ◌∙◌, arith, length-append}
use Rattle.std.proofs.lemmas.List.{length-map}
use Rattle.laws.specs.Test.{get_d_any}
use Rattle.rules.specs.Builder.{known_entries}
use Rattle.rules.specs.Cone.{Cone, constant, values}
use Rattle.rules.specs.Mapper.{State}
use Rattle.rules.specs.Network.{Term, LutNode, Input, Linear, Bootstrap, node_at}
use Rattle.theorems.specs.ConeValues.{values_long}
use Rattle.theorems.specs.KnownRows.{known_fine}
use Rattle.theorems.specs.LinearTables.{total, span_table}
use Rattle.retuning.specs.Kept.{Kept, two_bytes, padded, signed_byte, term_bytes, node_bytes, node_cell, entries_or_none, cone_bytes, cone_cell, state_bytes, kept_bytes, kept_length}
use Rattle.retuning.specs.Cells.{padded-length, CellsOf, cells-length, table-length}
use Rattle.retuning.specs.GoodState.{GoodNode, GoodCone, GoodState}
use Rattle.retuning.specs.HeaderBytes.{GoodHeader, header-length}

pub terms-length : (ts : List Term) → length (flat_map term_bytes ts) ≡ 3 * length ts
unfolding term_bytes two_bytes
terms-length ts = cells-length term_bytes 3 ts (λ i d l. refl)

pub node-length : (i : ℕ) (n : LutNode) → GoodNode i n → length (node_cell n) ≡ 36
unfolding node_cell node_bytes two_bytes GoodNode
node-length i n good = padded-length 36 (node_bytes n) (by n good)
  where
    by : (n : LutNode) → GoodNode i n → length (node_bytes n) ≤ 36
    by (Input g) h = let name = h.0 in omega arith
    by (Linear c ts) h = let few = h.0 in omega (arith, terms-length ts)
    by (Bootstrap j table) h = let few = h.1 in omega arith

-- An entry for each value from the least to the greatest.
pub entries-length : (n : ℕ) (c : Cone) → GoodCone n c → length (entries_or_none (known_entries (values c) c.truth)) ≡ total c.coefficients + 1
unfolding entries_or_none values
entries-length n c good =
    let (known, e) = good.entries in
    ap (λ o. length (entries_or_none o)) e ∙ (known_fine (values c) c.truth (values_long c good.same good.rows) known e).1 ∙ span_table c.coefficients

pub sources-length : (is : List ℕ) → length (flat_map two_bytes is) ≡ 2 * length is
unfolding two_bytes
sources-length is = cells-length two_bytes 2 is (λ i d l. refl)

pub cone-length : (n : ℕ) (c : Cone) → GoodCone n c → length (cone_cell c) ≡ 66
unfolding cone_cell cone_bytes
cone-length n c good =
    let sources = flat_map two_bytes c.support in
    let coefs = map signed_byte c.coefficients in
    let entries = entries_or_none (known_entries (values c) c.truth) in
    let few = good.few in
    let narrow = good.narrow in
    padded-length 66 (cone_bytes c)
    (omega (
      arith,
      length-append (sources ++ coefs) entries,
      length-append sources coefs,
      sources-length c.support,
      length-map c.coefficients signed_byte,
      good.same,
      entries-length n c good,
    ))

module _ {count most : ℕ} {st : State} (good : GoodState count most st) (count_fits : count ≤ 128) (most_fits : most ≤ 672) where
  nodes_cells : CellsOf node_cell 36 st.nodes
  unfolding node_at
  nodes_cells i d l = ap (λ n. length (node_cell n)) (get_d_any st.nodes i d _ l) ∙ node-length i (node_at st.nodes i) (good.nodes i l)

  cones_cells : CellsOf cone_cell 66 st.cones
  cones_cells i d l =
      ap (λ c. length (cone_cell c)) (get_d_any st.cones i d (constant 0) l)
      ∙ cone-length (length st.nodes) (get_or st.cones i (constant 0)) (good.cones i (omega (arith, good.cones_many)))

  pub nodes-length : length (padded 24192 (flat_map node_cell st.nodes)) ≡ 24192
  nodes-length = let few = good.few in table-length node_cell 36 24192 st.nodes nodes_cells (omega arith)

  pub cones-length : length (padded 8448 (flat_map cone_cell st.cones)) ≡ 8448
  cones-length = table-length cone_cell 66 8448 st.cones cones_cells (omega (arith, good.cones_many))

  pub state-length : length (state_bytes st) ≡ 32642
  unfolding state_bytes two_bytes
  state-length = simp (length-append, nodes-length, cones-length) refl

pub kept-length : (k : Kept) (count most : ℕ) → GoodHeader k.settings k.inputs k.gates k.outputs → GoodState count most k.state → count ≤ 128 → most ≤ 672
    → length (kept_bytes k) ≡ kept_length
unfolding kept_bytes
kept-length k count most header state c m = simp (length-append, header-length header, state-length state c m) refl
