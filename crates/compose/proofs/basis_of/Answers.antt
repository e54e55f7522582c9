use Rattle.std.proofs.Common.{◌≡◌, sym, ap, ap₂, ◌∙◌, List, map, ℕ, ◌≤◌, ℤ, length, take, true, arith, rules}
use Rattle.rules.specs.Cone as rules
use Rattle.rules.specs.Store.{coefficient_of}
use Rattle.rules.specs.Composition.{union_support}
use Rattle.support.specs.Support.{terms_are}
use Rattle.theorems.specs.Terms.{terms_over}
use Rattle.theorems.specs.LinearTables.{total}
use Rattle.theorems.specs.Unions.{union_different}
use Rattle.rules.specs.NetworkText.{all_different}
use Rattle.cone.specs.declared.Cone.{Cone}
use Rattle.cone.specs.View.{cone_of, sources_different, narrow_total}
use Rattle.compose.specs.Basis.{coefficients_over, coefficients_over-total}
use Rattle.compose.proofs.basis_of.Goals as goal
use Rattle.compose.proofs.basis_of.Goals.{After-coefficients_over-2}

-- `compose::basis_of` meets its contract, from what its calls ensure.
-- r is the coefficients over the first n nodes, which are U
over_union : (U nodes : List ℕ) (n : ℕ) (c : rules.Cone) (ns : List ℕ) (cs r : List ℤ) → ns ≡ c.support → cs ≡ c.coefficients → n ≡ length U → take n nodes ≡ U
    → take (length (take n nodes)) r ≡ map (coefficient_of (terms_over cs ns)) (take n nodes) → take n r ≡ coefficients_over U c
unfolding coefficients_over
over_union U nodes n c ns cs r a b e f g =
    let long : length (take n nodes) ≡ n = ap length f ∙ sym e in
    rw (terms_are c) (sym (ap (λ k. take k r) long) ∙ g ∙ ap₂ (λ l m. map (coefficient_of (terms_over l m)) (take n nodes)) b a ∙ ap (map (coefficient_of (terms_over c.coefficients c.support))) f)

module _ (c : After-coefficients_over-2) where
  abbrev U : List ℕ
  U = union_support (cone_of c.args.left).support (cone_of c.args.right).support

  count : c.union_support-union.result.n ≡ length U
  count = c.union_support-union.ensures.0 ∙ ap₂ (λ l r. length (union_support l r)) c.sources.ensures.are c.sources-2.ensures.are

  nodes : take c.union_support-union.result.n c.union_support-union.result.nodes ≡ U
  nodes = c.union_support-union.ensures.1 ∙ ap₂ union_support c.sources.ensures.are c.sources-2.ensures.are

  lefts : take c.union_support-union.result.n c.coefficients_over.result ≡ coefficients_over U (cone_of c.args.left)
  lefts = over_union U c.union_support-union.result.nodes _ _ _ _ c.coefficients_over.result c.sources-3.ensures.are c.coefficients.ensures.are count nodes c.coefficients_over.ensures

  rights : take c.union_support-union.result.n c.coefficients_over-2.result ≡ coefficients_over U (cone_of c.args.right)
  rights = over_union U c.union_support-union.result.nodes _ _ _ _ c.coefficients_over-2.result c.sources-4.ensures.are c.coefficients-2.ensures.are count nodes c.coefficients_over-2.ensures

  different : all_different U ≡ true
  different = union_different (cone_of c.args.left).support (cone_of c.args.right).support (sources_different c.args.left) (sources_different c.args.right)

-- the absolute values of a cone's coefficients, over more sources, add up to no more
narrow_over : (U : List ℕ) → all_different U ≡ true → (k : Cone) → (cs : List ℤ) → cs ≡ coefficients_over U (cone_of k) → total cs ≤ 31
narrow_over U d k cs e = rw e (omega (arith, coefficients_over-total U (cone_of k) d, narrow_total k))

pub invariant_of-result : goal.invariant_of-result
invariant_of-result c =
    let p = (goal.at.invariant_of-result c).After-coefficients_over-2 in
    record {
      left_long = search rules;
      right_long = search rules;
      few = rw (count p) c.requires;
      narrow_left = narrow_over _ (different p) c.args.left _ (lefts p);
      narrow_right = narrow_over _ (different p) c.args.right _ (rights p);
    }

pub returns : goal.returns
returns c =
    let p = (goal.at.returns c).After-coefficients_over-2 in
    record { count = count p; sources = nodes p; left_is = lefts p; right_is = rights p }
