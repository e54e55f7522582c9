-- What is known of the state before a gate of a circuit that was read: numbers are within their limits, so bytes hold them.
use Rattle.std.specs.Prelude.{◌≡◌, true, List, ℕ, ◌<◌, ◌≤◌, ◌^◌, nat_abs, length, get_or}
use Rattle.std.proofs.Math.Option.{some}
use Rattle.rules.specs.Builder.{known_entries}
use Rattle.rules.specs.Cone.{Cone, constant, values}
use Rattle.rules.specs.Mapper.{State}
use Rattle.rules.specs.Network.{Term, LutNode, Input, Linear, Bootstrap, node_at}
use Rattle.rules.specs.NetworkText.{all_different}
use Rattle.theorems.specs.LinearTables.{total}
use Rattle.theorems.specs.Weights.{GoodWeight}

-- A term of node i: a small coefficient, and a node before i.
pub record GoodTerm (i : ℕ) (t : Term) : Type 0 where
  pub coef : nat_abs t.coef ≤ 31
  pub node : t.node < i

-- Node i, which leans on nodes before it.
unfoldable pub GoodNode : ℕ → LutNode → Type 0
GoodNode i (Input g) = (length g.name ≤ 16) × ((k : ℕ) → get_or g.name k 0 < 256) × GoodWeight g.weight
GoodNode i (Linear c ts) = (length ts ≤ 11) × (nat_abs c ≤ 31) × ((k : ℕ) (d : Term) → k < length ts → GoodTerm i (get_or ts k d))
GoodNode i (Bootstrap j table) = (j < i) × (length table ≤ 32) × ((k : ℕ) → get_or table k 0 ≤ 1)

-- A cone over n nodes. Rows of one value have one truth.
pub record GoodCone (n : ℕ) (c : Cone) : Type 0 where
  pub few : length c.support ≤ 11
  pub same : length c.coefficients ≡ length c.support
  pub different : all_different c.support ≡ true
  pub below : (i : ℕ) → i < length c.support → get_or c.support i 0 < n
  pub narrow : total c.coefficients ≤ 31
  pub rows : length c.truth ≡ 2 ^ length c.support
  pub bits : (i : ℕ) → get_or c.truth i 0 ≤ 1
  pub entries : (known : List ℕ) × (known_entries (values c) c.truth ≡ some known)

-- At most `most` nodes, and `count` cones.
pub record GoodState (count most : ℕ) (st : State) : Type 0 where
  pub few : length st.nodes ≤ most
  pub nodes : (i : ℕ) → i < length st.nodes → GoodNode i (node_at st.nodes i)
  pub cones_many : length st.cones ≡ count
  pub cones : (i : ℕ) → i < count → GoodCone (length st.nodes) (get_or st.cones i (constant 0))
