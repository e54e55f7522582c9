-- Pruning keeps the centre of each node that it keeps.
use Rattle.std.specs.Prelude.{◌≡◌, refl, true, List, ℕ, ◌<◌, length}
use Rattle.std.proofs.Common.{ap, ◌∙◌}
use Rattle.rules.specs.Circuit.{Output}
use Rattle.rules.specs.Network.{LutNode, Input, Linear, Bootstrap, node_at, member, node_centre}
use Rattle.rules.specs.Store.{live, renumbered, renumbered_node, kept_from}
use Rattle.mapped.specs.PrunedNodes.{new-node}

same_centre : (P : ℕ) (kept : List ℕ) (x : LutNode) → node_centre P (renumbered_node kept x) ≡ node_centre P x
unfolding node_centre renumbered_node
same_centre P kept (Input a) = refl
same_centre P kept (Linear c ts) = refl
same_centre P kept (Bootstrap i table) = refl

-- A kept node, under its new number, has the centre that it had.
pub pruning_keeps_centre : (P : ℕ) (nodes : List LutNode) (outputs : List Output) (i : ℕ) → i < length nodes → member i (live nodes outputs) ≡ true
    → node_centre P (node_at (kept_from (live nodes outputs) 0 nodes) (renumbered (live nodes outputs) i)) ≡ node_centre P (node_at nodes i)
pruning_keeps_centre P nodes outputs i l m =
    ap (node_centre P) (new-node (live nodes outputs) nodes i l m) ∙ same_centre P (live nodes outputs) (node_at nodes i)
