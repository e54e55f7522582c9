use Rattle.std.proofs.Common.{◌≡◌, sym, ap, subst, ◌∙◌, List, ℕ, ◌≤◌, ℤ}
use Rattle.std.proofs.lemmas.Bool.Decides.{Decides-int_eq}
use Rattle.std.proofs.lemmas.Slice.Eq.{slice_eq-Decides}
use Rattle.rules.specs.Cone.{linear_table}
use Rattle.rules.specs.Span.{span}
use Rattle.compose.specs.Basis.{lefts, rights, lefts_span, rights_span}
use Rattle.search.specs.Policies.{ranges_in, finds_over}
use Rattle.search.specs.Search.{InSpans}
use Rattle.search.proofs.find_candidate.Goals as goal

-- `search::find_candidate` meets its contract.
-- the span of a row that was read
read_span : (k : ℕ) (l m : List ℤ) → k ≡ span (linear_table l) → l ≡ m → k ≡ span (linear_table m)
read_span k l m e f = e ∙ ap (λ t. span (linear_table t)) f

few : (k n : ℕ) → k ≡ n → n ≤ 32 → k ≤ 32
few k n e h = rw e h

pub ranges_of-ranges-requires : goal.ranges_of-ranges-requires
ranges_of-ranges-requires c =
    let b = c.args.context.basis.now in (
      few _ _ (read_span _ _ (lefts b) c.linear_span.ensures c.left-left.ensures.are) (lefts_span b),
      few _ _ (read_span _ _ (rights b) c.linear_span-2.ensures c.right-right.ensures.are) (rights_span b),
    )

pub search-requires : goal.search-requires
search-requires c =
    let b = c.args.context.basis.now in
    let left = few _ _ (read_span _ _ (lefts b) c.linear_span.ensures c.left-left.ensures.are) (lefts_span b) in
    let right = few _ _ (read_span _ _ (rights b) c.linear_span-2.ensures c.right-right.ensures.are) (rights_span b) in
    let spans = subst InSpans (sym c.ranges_of-ranges.ensures) (ranges_in c.eq-same_form.result c.args.context.settings.policy _ _ left right) in
    (c.requires, spans)

pub returns : goal.returns
returns c left right all counts h =
    finds_over _ _ left right all counts _ _ _ _ _ _ _ h c.args.context.narrow
    (read_span _ _ _ c.linear_span.ensures c.left-left.ensures.are) (read_span _ _ _ c.linear_span-2.ensures c.right-right.ensures.are) c.eq-same_form.result _ _
    (λ e. sym c.left-left.ensures.are ∙ (slice_eq-Decides Decides-int_eq _ _ _ c.eq-same_form.ensures).0 e ∙ c.right-right.ensures.are) c.ranges_of-ranges.ensures c.search.ensures
