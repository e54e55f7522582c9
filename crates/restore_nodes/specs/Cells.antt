-- What the cell of a node holds, by place.
use Rattle.std.specs.Prelude.{◌≡◌, List, ℕ, ◌+◌, ◌*◌, ◌-◌, ◌<◌, ℤ, length, get_or, drop}
use Rattle.std.specs.List.{slice_range}
use Rattle.std.proofs.Common.{refl, ap, arith}
use Rattle.std.proofs.Math.Seq.{take_at}
use Rattle.rules.specs.Circuit.{Given}
use Rattle.rules.specs.Network.{Term, LutNode, Input, Linear, Bootstrap}
use Rattle.retuning.specs.Kept.{two_bytes, signed_byte, padded, term_bytes, node_bytes, node_cell}
use Rattle.retuning.specs.Chunks.{chunk_at}
use Rattle.retuning.specs.Fields.{number_back}

module _ (bytes : List ℕ) (t : Term) (e : bytes ≡ term_bytes t) where
  pub term_coef : get_or bytes 0 0 ≡ signed_byte t.coef
  unfolding term_bytes
  term_coef = rw e refl

  pub term_node : get_or bytes 1 0 + 256 * get_or bytes 2 0 ≡ t.node
  unfolding term_bytes two_bytes
  term_node = rw e (number_back t.node)

-- ---- The cell of each kind.

abbrev pub kind : LutNode → ℕ
kind (Input g) = 0
kind (Linear c ts) = 1
kind (Bootstrap i table) = 2

pub kind_at : (cell : List ℕ) (n : LutNode) → cell ≡ node_cell n → get_or cell 0 0 ≡ kind n
unfolding node_cell node_bytes padded
kind_at cell (Input g) e = rw e refl
kind_at cell (Linear c ts) e = rw e refl
kind_at cell (Bootstrap i table) e = rw e refl

module _ (cell : List ℕ) (g : Given) (e : cell ≡ node_cell (Input g)) where
  pub input_weight : get_or cell 1 0 ≡ g.weight
  unfolding node_cell node_bytes padded
  input_weight = rw e refl

  pub input_length : get_or cell 2 0 ≡ length g.name
  unfolding node_cell node_bytes padded
  input_length = rw e refl

  pub input_name : slice_range cell 3 (3 + length g.name) ≡ g.name
  unfolding node_cell node_bytes padded
  input_name = rw e (take_at g.name _ (3 + length g.name - 3) (omega arith))

module _ (cell : List ℕ) (i : ℕ) (table : List ℕ) (e : cell ≡ node_cell (Bootstrap i table)) where
  pub boot_source : get_or cell 1 0 + 256 * get_or cell 2 0 ≡ i
  unfolding node_cell node_bytes padded two_bytes
  boot_source = rw e (number_back i)

  pub boot_length : get_or cell 3 0 ≡ length table
  unfolding node_cell node_bytes padded two_bytes
  boot_length = rw e refl

  pub boot_table : slice_range cell 4 (4 + get_or cell 3 0) ≡ table
  unfolding node_cell node_bytes padded two_bytes
  boot_table = rw (boot_length, e) (take_at table _ (4 + length table - 4) (omega arith))

three : (t : Term) → length (term_bytes t) ≡ 3
unfolding term_bytes two_bytes
three t = refl

module _ (cell : List ℕ) (c : ℤ) (ts : List Term) (e : cell ≡ node_cell (Linear c ts)) where
  pub sum_constant : get_or cell 1 0 ≡ signed_byte c
  unfolding node_cell node_bytes padded
  sum_constant = rw e refl

  pub sum_length : get_or cell 2 0 ≡ length ts
  unfolding node_cell node_bytes padded
  sum_length = rw e refl

  pub sum_term : (k : ℕ) (d : Term) → k < length ts → slice_range cell (3 + 3 * k) (6 + 3 * k) ≡ term_bytes (get_or ts k d)
  unfolding node_cell node_bytes padded
  sum_term k d h = chunk_at term_bytes 3 d _ ts (λ i l. three (get_or ts i d)) cell 3 (ap (drop 3) e) k _ _ h (omega arith) (omega arith)

pub ruleset term_cell = (term_coef, term_node)

pub ruleset input_cell = (input_weight, input_length, input_name)

pub ruleset boot_cell = (boot_source, boot_length, boot_table)

pub ruleset sum_cell = (sum_constant, sum_length, sum_term)
