use Rattle.std.proofs.Common.{◌≡◌, sym, ap, ap₂, ◌∙◌, Bool, true, false, ℕ, eqb, ◌+◌, ◌≤◌, arith, ℤ, nat_abs, ◌-ℤ◌, length-take-le, ◌≤ℤ◌}
use Rattle.std.proofs.lemmas.Bool.{eqb-true, eqb-false}
use Rattle.laws.specs.Integer.{ints}
use Rattle.rules.specs.Builder.{table_limits}
use Rattle.rules.specs.Span.{span}
use Rattle.theorems.specs.BuilderExact.{limits_most, bad_settings, lengths_differ, no_row, too_long_lem, from_rows}
use Rattle.theorems.specs.Spans.{least_le, le_greatest, span_is}
use Rattle.builder.proofs.composed_bootstrap_table.Goals as goal
use Rattle.builder.proofs.composed_bootstrap_table.Goals.{After-span_of-length, Else-not-table_limits, then-values-truths-via-then-values-truths, then-values-truths-via-else-values-truths+then-is_empty}

-- `builder::composed_bootstrap_table` meets its contract.
settings : (c : Else-not-table_limits) → table_limits c.args.p c.args.m ≡ true
settings c = sym c.table_limits.ensures ∙ c.if-not-table_limits.false

-- `is_empty` said no
some_row : (n : ℕ) (r : Bool) → r ≡ eqb n 0 → r ≡ false → n ≡ 0 → ⊥
some_row n r e f = eqb-false n 0 (sym e ∙ f)

-- the span is what the code reckons, and fits the arrays
module _ (c : After-span_of-length) where
  length_is : c.span_of-length.result ≡ span c.args.values.now
  length_is =
      let bounds = c.bounds_of-bounds.ensures in
      c.span_of-length.ensures
      ∙ ap (λ n. n + 1) (ap₂ (λ h l. nat_abs (h -ℤ l)) bounds.1 bounds.0)
      ∙ sym (span_is c.args.values.now (omega (arith, some_row _ _ c.is_empty.ensures c.if-is_empty.false)))

  fits : c.span_of-length.result ≤ c.args.m → c.span_of-length.result ≤ 32
  fits h = omega (arith, limits_most _ _ (sym c.table_limits.ensures ∙ c.if-not-table_limits.false))

ordered : (l h a b v : ℤ) → l ≡ a → h ≡ b → a ≤ℤ v → v ≤ℤ b → l ≤ℤ h
ordered l h a b v e f i j = omega (arith, ints)

pub returns-then-not-table_limits : goal.returns-then-not-table_limits
returns-then-not-table_limits c = sym (bad_settings _ _ _ _ _ (sym c.table_limits.ensures ∙ c.if-not-table_limits.true))

pub returns-then-values-truths : goal.returns-then-values-truths
returns-then-values-truths c =
    let good = settings (goal.at.returns-then-values-truths c).Else-not-table_limits in
    elim c.then-values-truths.branch [
      | then-values-truths-via-then-values-truths w ↦ sym (lengths_differ _ _ _ _ _ good w.if-values-truths.true)
      | then-values-truths-via-else-values-truths+then-is_empty w ↦ sym (no_row _ _ _ _ _ good w.if-values-truths.false (eqb-true _ 0 (sym w.is_empty.ensures ∙ w.if-is_empty.true)))
    ]

pub span_of-length-requires : goal.span_of-length-requires
span_of-length-requires c =
    let values = c.args.values.now in
    ordered _ _ _ _ _ c.bounds_of-bounds.ensures.0 c.bounds_of-bounds.ensures.1 (least_le values 0 (omega (arith, some_row _ _ c.is_empty.ensures c.if-is_empty.false))) (le_greatest values 0 (omega (arith, some_row _ _ c.is_empty.ensures c.if-is_empty.false)))

pub returns-then-m-length : goal.returns-then-m-length
returns-then-m-length c = sym (too_long_lem _ _ _ _ _ (settings (goal.at.returns-then-m-length c).Else-not-table_limits) c.if-values-truths.false (some_row _ _ c.is_empty.ensures c.if-is_empty.false) (omega (arith, length_is (goal.at.returns-then-m-length c).After-span_of-length)))

pub slice_bounds-table-end : goal.slice_bounds-table-end
slice_bounds-table-end c = fits (goal.at.slice_bounds-table-end c).After-span_of-length c.if-m-length.false

pub slice_bounds-build_from_rows-end : goal.slice_bounds-build_from_rows-end
slice_bounds-build_from_rows-end c = sym (length-take-le _ _ (fits (goal.at.slice_bounds-build_from_rows-end c).After-span_of-length c.if-m-length.false))

pub build_from_rows-requires-clause-narrow : goal.build_from_rows-requires-clause-narrow
build_from_rows-requires-clause-narrow c =
    let at = (goal.at.build_from_rows-requires-clause-narrow c).After-span_of-length in
    omega (arith, length_is at, fits at c.if-m-length.false)

pub build_from_rows-requires-clause-table_len : goal.build_from_rows-requires-clause-table_len
build_from_rows-requires-clause-table_len c =
    let at = (goal.at.build_from_rows-requires-clause-table_len c).After-span_of-length in
    length-take-le _ _ (fits at c.if-m-length.false) ∙ length_is at

pub returns : goal.returns
returns c =
    c.build_from_rows.ensures
    ∙ sym (from_rows _ _ _ _ _ (settings (goal.at.returns c).Else-not-table_limits) c.if-values-truths.false (some_row _ _ c.is_empty.ensures c.if-is_empty.false) (omega (arith, length_is (goal.at.returns c).After-span_of-length, c.if-m-length.false)))
