use Rattle.std.proofs.Common.{◌≡◌, length, take}
use mathlib.Core.List.{zip_with}
use Rattle.nodes.specs.Terms.{summands}
use Rattle.nodes.specs.View.{term}
use Rattle.nodes.proofs.terms.Terms.over.Given as goal

abbrev pub invariant-loop-coef : goal.invariant-loop-coef
invariant-loop-coef l =
    let k = length l.yielded in
    (summands l.terms.items ≡ zip_with term (take k l.coefs) (take k l.nodes)) × (length l.terms.items ≡ k)
