-- A cone without its sources of coefficient 0 has the same norm.
use Rattle.std.specs.Prelude.{◌≡◌, List}
use Rattle.std.proofs.Math.Path.{sym}
use Rattle.std.proofs.Common.{◌∙◌}
use Rattle.laws.specs.Select.{select}
use Rattle.rules.specs.Composition.{simplify_cone}
use Rattle.rules.specs.Cone.{Cone, terms, norm2}
use Rattle.rules.specs.Network.{LutNode}
use Rattle.rules.specs.Store.{is_used}
use Rattle.theorems.specs.Weights.{terms_weighted}
use Rattle.theorems.specs.ZeroSources.{norm_used}
use Rattle.theorems.proofs.Weights.{norm2_weighted}

pub simplified_norm : (nodes : List LutNode) (c : Cone) → norm2 nodes (simplify_cone c) ≡ norm2 nodes c
unfolding simplify_cone norm2
simplified_norm nodes c = norm2_weighted nodes (simplify_cone c) ∙ sym (terms_weighted nodes (select is_used (terms c))) ∙ norm_used nodes (terms c)
