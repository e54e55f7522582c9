-- A node by its kind: what its bytes hold.
use Rattle.std.specs.Prelude.{◌≡◌, ℕ, ◌<◌, ◌≤◌, ℤ, nat_abs}
use Rattle.std.proofs.Common.{subst}
use Rattle.packed.specs.Short.{Short}
use Rattle.nodes.specs.declared.node.LutNode as L
use Rattle.nodes.specs.declared.node.LutNode.TheVariants as Code
use Rattle.nodes.specs.declared.node.Term as T
use Rattle.nodes.specs.View.{lut_node, terms_seen, Fine, FineTerms}

pub sum_fine : {n : L.LutNode} {c : ℤ} {ts : Short T.Term} → n ≡ Code.Linear c ts → Fine 672 (lut_node n) → (nat_abs c ≤ 31) × FineTerms 672 (terms_seen ts.items)
unfolding lut_node Fine
sum_fine e f = let q = subst (λ (m : L.LutNode). Fine 672 (lut_node m)) e f in (q.1, q.2)

pub boot_fine : {n : L.LutNode} {j : ℕ} {table : Short ℕ} → n ≡ Code.Bootstrap j table → Fine 672 (lut_node n) → j < 672
unfolding lut_node Fine
boot_fine e f = let q = subst (λ (m : L.LutNode). Fine 672 (lut_node m)) e f in q.0
