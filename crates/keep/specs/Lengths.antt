-- How long the kept bytes are, of the code's values.
use Rattle.std.specs.Prelude.{◌≡◌, refl, List, ◌++◌, map, ℕ, ◌<◌, ◌≤◌, length, get_or, take}
use mathlib.Core.List.{flat_map}
use Rattle.std.proofs.Common.{arith, length-append}
use Rattle.std.proofs.Math.Seq.{length-take-le}
use Rattle.std.proofs.lemmas.List.{length-map, get_or_default}
use Rattle.rules.specs.declared.Settings.{Settings}
use Rattle.rules.specs.Cone as rules
use Rattle.rules.specs.Network.{LutNode, Input, Linear, Bootstrap, node_at}
use Rattle.theorems.specs.NodesAt.{no_input}
use Rattle.retuning.specs.Cells.{padded-length, table-length}
use Rattle.retuning.specs.Kept.{two_bytes, padded, signed_byte, node_bytes, node_cell, cone_bytes, cone_cell}
use Rattle.retuning.specs.Kept.{header_bytes, state_bytes, kept_bytes}
use Rattle.retuning.specs.StateBytes.{terms-length, sources-length}
use Rattle.rotation.specs.Entries.{numbers, numbers-length}
use Rattle.forms.specs.declared.Input as I
use Rattle.forms.specs.declared.Output as O
use Rattle.forms.specs.Forms.{given_of, output_of}
use Rattle.circuit.specs.declared.Gate as G
use Rattle.circuit.specs.View.{gate_of}
use Rattle.cone.specs.declared.Cone.{Cone}
use Rattle.cone.specs.View.{cone_of, view_sources, view_coefs, span_narrow}
use Rattle.nodes.specs.declared.store.Store.{Store}
use Rattle.nodes.specs.Store.{store_of, store_few, node_within}
use Rattle.nodes.specs.View.{Fine}
use Rattle.gates.specs.Wired.{state_of}
use Rattle.lines.specs.Put.{Room}
use Rattle.cells.specs.Pieces.{flat_seen}
use Rattle.header.specs.Small.{Small}
use Rattle.header.specs.Lengths.{header-long}
use Rattle.keep.specs.Cones.{bytes_are}
use Rattle.keep.specs.Whole.{kept_of}

-- ---- The state.

node-most : (n : LutNode) → Fine 672 n → length (node_bytes n) ≤ 36
unfolding node_bytes Fine two_bytes
node-most (Input g) f = omega (arith, f.0)
node-most (Linear c ts) f = omega (arith, f.0, terms-length ts)
node-most (Bootstrap j table) f = omega (arith, f.1)

cone-most : (c : Cone) → length (cone_bytes (cone_of c)) ≤ 66
cone-most c =
    let sources = flat_map two_bytes (cone_of c).support in
    let coefs = map signed_byte (cone_of c).coefficients in
    let known = take (rules.cone_span (cone_of c)) c.known in
    rw (bytes_are c refl refl refl)
    (omega (
      arith,
      c.few,
      span_narrow c,
      view_sources c,
      view_coefs c,
      sources-length (cone_of c).support,
      length-map (cone_of c).coefficients signed_byte,
      numbers-length known,
      length-take-le (rules.cone_span (cone_of c)) c.known (omega (arith, span_narrow c, c.entries_long)),
      length-append (sources ++ coefs) (numbers known),
      length-append sources coefs,
    ))

module _ (store : Store) (wires : List Cone) where
  node_small : (i : ℕ) (d : LutNode) → i < length (store_of store) → Fine 672 (get_or (store_of store) i d)
  unfolding node_at
  node_small i d l = rw (get_or_default (store_of store) i d no_input l) (node_within store i l)

  nodes-long : length (padded 24192 (flat_map node_cell (store_of store))) ≡ 24192
  unfolding node_cell
  nodes-long = table-length node_cell 36 24192 (store_of store) (λ i d l. padded-length 36 _ (node-most (get_or (store_of store) i d) (node_small i d l))) (omega (arith, store_few store))

  cones-long : length wires ≤ 128 → length (padded 8448 (flat_map cone_cell (map cone_of wires))) ≡ 8448
  unfolding cone_cell
  cones-long few =
      rw (flat_seen cone_cell cone_of wires)
      (table-length (λ x. cone_cell (cone_of x)) 66 8448 wires (λ i d l. padded-length 66 _ (cone-most (get_or wires i d))) (omega (arith, few)))

  state-long : length wires ≤ 128 → length (state_bytes (state_of store wires)) ≡ 32642
  unfolding state_bytes state_of two_bytes
  state-long few = simp length-append (omega (arith, nodes-long, cones-long few))

module _ (s : Settings) (is : List I.Input) (gs : List G.Gate) (os : List O.Output) (store : Store) (wires : List Cone) where
  module _ (h : Small s (map given_of is) (map gate_of gs) (map output_of os)) (few : length wires ≤ 128) where
    pub kept-long : length (kept_bytes (kept_of s is gs os store wires)) ≡ 34704
    unfolding kept_bytes
    kept-long =
        omega (
          arith,
          header-long h,
          state-long store wires few,
          length-append (header_bytes s (map given_of is) (map gate_of gs) (map output_of os)) (state_bytes (state_of store wires)),
        )

    pub kept_room : Room 0 (kept_bytes (kept_of s is gs os store wires))
    kept_room = record { fits = omega (arith, kept-long) }
