use Rattle.std.proofs.Common.{◌≡◌, List, ◌++◌, ℕ, ◌+◌, ℤ, length, take}
use Rattle.rules.specs.NetworkText.{sources}
use Rattle.theorems.specs.Terms.{coefs}
use Rattle.cone.specs.View.{cone_of}
use Rattle.compose.specs.declared.simplify.Retained.{Retained}
use Rattle.compose.specs.Simplify.{used_from}
use Rattle.compose.proofs.simplify.simplify_cone.Given as goal

-- the arrays hold the used terms before i
pub record Kept (cs : List ℤ) (ns : List ℕ) (i : ℕ) (r : Retained) : Type 0 where
  pub room : (length r.support ≡ 11) × (length r.coefs ≡ 11)
  pub count : r.n + length (used_from cs ns i) ≡ length (used_from cs ns 0)
  pub nodes : take r.n r.support ++ sources (used_from cs ns i) ≡ sources (used_from cs ns 0)
  pub values : take r.n r.coefs ++ coefs (used_from cs ns i) ≡ coefs (used_from cs ns 0)

-- `compose::simplify::simplify_cone` meets its contract: the terms kept so far, and the used ones that are left, are the used ones.
abbrev pub invariant-loop-source : goal.invariant-loop-source
invariant-loop-source l =
    Kept (cone_of l.fn.cone).coefficients (cone_of l.fn.cone).support (length l.yielded) l.kept
