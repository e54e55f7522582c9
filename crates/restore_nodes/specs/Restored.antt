-- Nodes, read one by one and put in the store.
use Rattle.std.specs.Prelude.{◌≡◌, Bool, true, false, List, [], ◌∷◌, ◌++◌, ℕ, ◌+◌, ◌*◌, ◌<◌, ◌≤◌, T, length, get_or, take, drop}
use mathlib.Core.List.{flat_map}
use Rattle.std.specs.List.{slice_range}
use Rattle.std.proofs.Common.{refl, ◌∙◌, sym, ap, true≢false, add-one, arith, take_all, take-suc}
use Rattle.rules.specs.Network.{LutNode, Input, Linear, Bootstrap, node_at}
use Rattle.rules.specs.Runs.{all_bits}
use Rattle.theorems.specs.Bits.{all-bits_of, all-bits_nil}
use Rattle.theorems.specs.NodesAt.{no_input}
use Rattle.retuning.specs.Chunks.{chunk_at}
use Rattle.retuning.specs.Fields.{number_back}
use Rattle.retuning.specs.GoodState.{GoodNode}
use Rattle.retuning.specs.Kept.{two_bytes, padded, node_cell}
use Rattle.retuning.specs.StateBytes.{node-length}
use Rattle.nodes.specs.Store.{store_of, Centred}
use Rattle.nodes.specs.View.{table_in, Fine}
use Rattle.nodes.specs.declared.store.Store.{Store}

-- The bytes are these good nodes'.
pub record NodesOf (bytes : List ℕ) (nodes : List LutNode) : Type 0 where
  pub good : (i : ℕ) → i < length nodes → GoodNode i (node_at nodes i)
  pub same : bytes ≡ two_bytes (length nodes) ++ padded 24192 (flat_map node_cell nodes)

-- The first i nodes were read.
pub record Restoring (p : ℕ) (bytes : List ℕ) (i : ℕ) (s : Store) : Type 0 where
  pub many : length (store_of s) ≡ i
  pub centred : Centred p s
  pub nodes : (nodes : List LutNode) → NodesOf bytes nodes → store_of s ≡ take i nodes

-- ---- laws

pub table_bits : (count : ℕ) (n : LutNode) → Fine count n → T (all_bits (table_in n))
unfolding Fine table_in
table_bits count (Input g) f = all-bits_nil
table_bits count (Linear c ts) f = all-bits_nil
table_bits count (Bootstrap i table) f = all-bits_of table (λ i h. f.2 i)

-- ---- laws: a node's cell among the bytes

module _ (bytes : List ℕ) (nodes : List LutNode) (o : NodesOf bytes nodes) where
  pub count_back : get_or bytes 0 0 + 256 * get_or bytes 1 0 ≡ length nodes
  unfolding two_bytes
  count_back = rw o.same (number_back (length nodes))

  node_here : (i : ℕ) → i < length nodes → slice_range bytes (2 + 36 * i) (38 + 36 * i) ≡ node_cell (node_at nodes i)
  unfolding padded two_bytes node_at
  node_here i h =
      chunk_at node_cell 36 no_input _ nodes (λ k l. node-length k (node_at nodes k) (o.good k l)) bytes 2 (ap (drop 2) o.same) i _ _ h (omega arith) (omega arith)

module _ (p : ℕ) (bytes : List ℕ) where
  pub restoring_start : (s : Store) → store_of s ≡ [] → Restoring p bytes 0 s
  restoring_start s e =
      record { many = ap length e; centred = record { at = λ i l. absurd (omega (arith, l, ap length e)) }; nodes = λ nodes o. rw e refl }

  module _ (i : ℕ) (s : Store) (w : Restoring p bytes i s) (r : Bool) (next : Store)
      (whole : (n : LutNode) → GoodNode (length (store_of s)) n → slice_range bytes (2 + 36 * i) (38 + 36 * i) ≡ node_cell n → (r ≡ true) × (store_of next ≡ store_of s ++ (n ∷ [])))
      (count : ℕ) (e : count ≡ get_or bytes 0 0 + 256 * get_or bytes 1 0) (h : i < count) where
    -- it is read, if the bytes are some good nodes'
    node_read : (nodes : List LutNode) → NodesOf bytes nodes → (i < length nodes) × (r ≡ true) × (store_of next ≡ store_of s ++ (node_at nodes i ∷ []))
    node_read nodes o =
        let l : i < length nodes = omega (arith, count_back bytes nodes o) in
        let q = whole (node_at nodes i) (rw w.many (o.good i l)) (node_here bytes nodes o i l) in
        (l, q.0, q.1)

    pub restoring_turn : (length (store_of next) ≡ length (store_of s) + 1) × (Centred p s → Centred p next) → Restoring p bytes (i + 1) next
    unfolding node_at
    restoring_turn z =
        record {
          many = omega (arith, z.0, w.many);
          centred = z.1 w.centred;
          nodes = λ nodes o.
              let q = node_read nodes o in
              q.2 ∙ ap (λ l. l ++ (node_at nodes i ∷ [])) (w.nodes nodes o) ∙ sym (rw add-one (take-suc nodes i no_input q.0));
        }

    pub restoring_refused : r ≡ false → (nodes : List LutNode) → NodesOf bytes nodes → ⊥
    restoring_refused f nodes o = true≢false (sym (node_read nodes o).1 ∙ f)

  pub restoring_done : (i : ℕ) (s : Store) → Restoring p bytes i s → (count : ℕ) → count ≡ get_or bytes 0 0 + 256 * get_or bytes 1 0 → count ≤ i → (nodes : List LutNode) → NodesOf bytes nodes
      → store_of s ≡ nodes
  restoring_done i s w count e h nodes o = w.nodes nodes o ∙ take_all i nodes (omega (arith, count_back bytes nodes o))
