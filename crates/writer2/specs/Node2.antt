-- A node of the store in edition 2, and the nodes in their new order.
use Rattle.std.specs.Prelude.{◌≡◌, ◌⊎◌, ℤ, refl, List, [], ◌++◌, map, ℕ, ◌+◌, ◌<◌, ◌≤◌, T, length, get_or, drop, Option}
use Rattle.std.proofs.Common.{inl, inr, add-one, append-nil, drop_of_length-le, drop-cons}
use Rattle.packed.specs.Short.{Short}
use Rattle.rules.specs.Network.{LutNode, Input, Linear, Bootstrap, node_at}
use Rattle.rules.specs.Rotation.{rotatable, centre_of}
use Rattle.rules.specs.Runs.{all_bits}
use Rattle.rules.specs.Writing.{node_text}
use Rattle.theorems.specs.Bits.{all-bits_of}
use Rattle.nodes.specs.declared.node.LutNode as L
use Rattle.nodes.specs.declared.node.LutNode.TheVariants as Code
use Rattle.nodes.specs.declared.node.Term as T
use Rattle.nodes.specs.declared.store.Store.{Store}
use Rattle.nodes.specs.Store.{store_of}
use Rattle.nodes.specs.View.{lut_node}
use Rattle.lines.specs.Lines2.{table_text}
use Rattle.lines.specs.declared.cursor.Cursor.{Cursor}
use Rattle.lines.specs.Put.{Put, Room, Left, left_step, left-room, left_none}
use Rattle.writer.specs.Live.{NewNumbers, HasNumber, new_number, new_node, Ready, Sourced, ready}
use Rattle.writer2.specs.Stream.{closing, opening, piece, open_behind, stream}

-- A table turns at P.
unfoldable pub Turns : ℕ → LutNode → Type 0
Turns P (Input g) = Unit {0}
Turns P (Linear c ts) = Unit {0}
Turns P (Bootstrap i table) = T (rotatable P table)

-- What is known of a node that is written: those that it needs have numbers, and a table turns.
pub record Known (P : ℕ) (live : NewNumbers) (n : LutNode) : Type 0 where
  pub ready : Ready live n
  pub turns : Turns P n

-- Of all of them in an order: each has a number.
pub record Ordered (P : ℕ) (live : NewNumbers) (store : Store) (order : List ℕ) : Type 0 where
  pub below : (k : ℕ) → k < length order → get_or order k 0 < length (store_of store)
  pub numbered : (j : ℕ) → j < length (store_of store) → HasNumber live j
  pub turns : (i : ℕ) → i < length (store_of store) → Turns P (node_at (store_of store) i)

pub known_at : {P : ℕ} {live : NewNumbers} {order : List ℕ} {store : Store} → Ordered P live store order → Sourced live store → (i : ℕ) → i < length (store_of store) → Known P live (node_at (store_of store) i)
known_at {P} {live} {order} {store} o s i h = record { ready = ready live store i s h (o.numbered i h); turns = o.turns i h }

-- the bits of a table
pub bits_of : (table : List ℕ) → ((k : ℕ) → get_or table k 0 ≤ 1) → T (all_bits table)
bits_of table b = all-bits_of table (λ k q. b k)

-- ---- laws: a node behind what is open

module _ (P : ℕ) (o : Option ℕ) (live : NewNumbers) (n : L.LutNode) where
  pub boot_piece : {j m : ℕ} {table : Short ℕ} {l : List ℕ} → n ≡ Code.Bootstrap j table → m ≡ new_number live j → l ≡ table.items
      → piece P o (new_node live (lut_node n)) ≡ opening o m ++ table_text l (centre_of P l)
  unfolding lut_node new_node piece
  boot_piece e f g = rw (e, f, g) refl

pub plain-piece : (P : ℕ) (o : Option ℕ) (live : NewNumbers) (n : L.LutNode)
    → ((name : Short ℕ) × (weight : ℕ) × (n ≡ Code.Input name weight)) ⊎ ((c : ℤ) × (ts : Short T.Term) × (n ≡ Code.Linear c ts))
    → piece P o (new_node live (lut_node n)) ≡ closing o ++ node_text (new_node live (lut_node n))
unfolding lut_node new_node piece
plain-piece P o live n (inl h) = rw h.2 refl
plain-piece P o live n (inr h) = rw h.2 refl

-- ---- laws: the nodes in turn

unfoldable pub ordered : NewNumbers → List LutNode → List ℕ → List LutNode
ordered live nodes o = map (λ i. new_node live (node_at nodes i)) o

-- the lines from place k on, behind what is open
unfoldable pub lines_left : ℕ → NewNumbers → List LutNode → List ℕ → ℕ → Option ℕ → List ℕ
lines_left P live nodes o k opened = stream P opened (ordered live nodes (drop k o))

module _ (P : ℕ) (live : NewNumbers) (nodes : List LutNode) (o : List ℕ) (k : ℕ) (opened : Option ℕ) {all : List ℕ} {before now : Cursor} (l : Left all before (lines_left P live nodes o k opened) now) where
  module _ (h : k < length o) {next : Option ℕ} (f : next ≡ open_behind (new_node live (node_at nodes (get_or o k 0)))) where
    lines_step : lines_left P live nodes o k opened ≡ piece P opened (new_node live (node_at nodes (get_or o k 0))) ++ lines_left P live nodes o (k + 1) next
    unfolding lines_left ordered stream
    lines_step = rw (drop-cons o k 0 h, add-one, f) refl

    pub piece-room : Room before.at all → Room now.at (piece P opened (new_node live (node_at nodes (get_or o k 0))))
    piece-room r = left-room (piece P opened (new_node live (node_at nodes (get_or o k 0)))) (lines_left P live nodes o (k + 1) next) l lines_step r

    pub piece-turn : {after : Cursor} → Put (piece P opened (new_node live (node_at nodes (get_or o k 0)))) now after
        → Left all before (lines_left P live nodes o (k + 1) next) after
    piece-turn p = left_step (piece P opened (new_node live (node_at nodes (get_or o k 0)))) (lines_left P live nodes o (k + 1) next) l lines_step p

  module _ (h : length o ≤ k) where
    lines_end : lines_left P live nodes o k opened ≡ closing opened ++ []
    unfolding lines_left ordered stream
    lines_end = rw (drop_of_length-le o {i = k} h, append-nil)

    pub closing-room : Room before.at all → Room now.at (closing opened)
    closing-room r = left-room (closing opened) [] l lines_end r

    pub lines_done : {after : Cursor} → Put (closing opened) now after → Put all before after
    lines_done p = left_none (left_step (closing opened) [] l lines_end p)
