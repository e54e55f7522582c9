-- A node by the kind that its cell names.
use Rattle.std.specs.Prelude.{◌≡◌, List, ℕ, ℤ, get_or}
use Rattle.std.proofs.Common.{arith}
use Rattle.rules.specs.Circuit.{Given}
use Rattle.rules.specs.Network.{Term, LutNode, Input, Linear, Bootstrap}
use Rattle.retuning.specs.GoodState.{GoodNode}
use Rattle.retuning.specs.Kept.{node_cell}
use Rattle.restore_nodes.specs.Cells.{kind_at}

module _ (count : ℕ) (cell : List ℕ) (Q : LutNode → Type 0) where
  -- Q holds of the good node whose cell it is
  abbrev pub OfCell : LutNode → Type 0
  OfCell n = GoodNode count n → cell ≡ node_cell n → Q n

  pub kind_input : get_or cell 0 0 ≡ 0 → ((g : Given) → OfCell (Input g)) → (n : LutNode) → OfCell n
  kind_input k f (Input g) h e = f g h e
  kind_input k f (Linear c ts) h e = absurd (omega (arith, kind_at cell (Linear c ts) e))
  kind_input k f (Bootstrap i table) h e = absurd (omega (arith, kind_at cell (Bootstrap i table) e))

  pub kind_sum : get_or cell 0 0 ≡ 1 → ((c : ℤ) (ts : List Term) → OfCell (Linear c ts)) → (n : LutNode) → OfCell n
  kind_sum k f (Input g) h e = absurd (omega (arith, kind_at cell (Input g) e))
  kind_sum k f (Linear c ts) h e = f c ts h e
  kind_sum k f (Bootstrap i table) h e = absurd (omega (arith, kind_at cell (Bootstrap i table) e))

  pub kind_boot : get_or cell 0 0 ≡ 2 → ((i : ℕ) (table : List ℕ) → OfCell (Bootstrap i table)) → (n : LutNode) → OfCell n
  kind_boot k f (Input g) h e = absurd (omega (arith, kind_at cell (Input g) e))
  kind_boot k f (Linear c ts) h e = absurd (omega (arith, kind_at cell (Linear c ts) e))
  kind_boot k f (Bootstrap i table) h e = f i table h e

  pub kind_none : (get_or cell 0 0 ≡ 0 → ⊥) → (get_or cell 0 0 ≡ 1 → ⊥) → (get_or cell 0 0 ≡ 2 → ⊥) → (n : LutNode) → OfCell n
  kind_none a b c (Input g) h e = absurd (a (kind_at cell (Input g) e))
  kind_none a b c (Linear z ts) h e = absurd (b (kind_at cell (Linear z ts) e))
  kind_none a b c (Bootstrap i table) h e = absurd (c (kind_at cell (Bootstrap i table) e))
