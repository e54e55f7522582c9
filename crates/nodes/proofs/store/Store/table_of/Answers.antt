use Rattle.std.proofs.Common.{refl}
use Rattle.nodes.specs.View.{seen_input, seen_linear, seen_bootstrap, table_in}
use Rattle.nodes.proofs.store.Store.table_of.Goals as goal

pub returns-in-Input : goal.returns-in-Input
unfolding table_in
returns-in-Input c = rw (seen_input _ _ _ _ c.node.ensures c.in-Input.is) refl

pub returns-in-Linear : goal.returns-in-Linear
unfolding table_in
returns-in-Linear c = rw (seen_linear _ _ _ _ c.node.ensures c.in-Linear.is) refl

pub returns-in-Bootstrap : goal.returns-in-Bootstrap
unfolding table_in
returns-in-Bootstrap c = rw (seen_bootstrap _ _ _ _ c.node.ensures c.in-Bootstrap.is) c.deref.ensures.0
