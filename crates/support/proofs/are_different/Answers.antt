use Rattle.std.proofs.Common.{◌≡◌, sym, ◌∙◌, true, false, List, ◌∷◌, ℕ, eqb}
use Rattle.std.specs.List.{list_any}
use Rattle.rules.specs.NetworkText.{all_different}
use Rattle.support.specs.Support.{contained}
use Rattle.support.proofs.are_different.Goals as goal

-- The first node stands among the others, or not.
module _ (m : ℕ) (l nodes : List ℕ) (is : nodes ≡ m ∷ l) where
  twice : list_any (λ j. eqb j m) l ≡ true → all_different nodes ≡ false
  unfolding all_different
  twice e = rw (is, ← contained l m, e)

  once : list_any (λ j. eqb j m) l ≡ false → all_different nodes ≡ all_different l
  unfolding all_different
  once e = rw (is, ← contained l m, e)

pub returns-then-contains : goal.returns-then-contains
returns-then-contains c = sym (twice _ _ _ c.in-Some.ensures.cases.0 (sym c.contains.ensures.value ∙ c.if-contains.true)) ∙ c.loop-first.invariant

pub loop-first-preserved : goal.loop-first-preserved
loop-first-preserved c = sym (once _ _ _ c.in-Some.ensures.cases.0 (sym c.contains.ensures.value ∙ c.if-contains.false)) ∙ c.loop-first.invariant
