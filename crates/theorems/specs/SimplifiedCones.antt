-- A cone without its sources of coefficient 0 has the same least value, span and norm, and at each row the value and the truth that the cone has at a row of its own.
use Rattle.std.specs.Prelude.{◌≡◌, true, ℕ, ◌+◌, ◌<◌, ◌^◌, pos, get_or}
use Rattle.std.proofs.Math.Path.{sym, ap}
use Rattle.std.proofs.Common.{◌∙◌}
use Rattle.std.proofs.Math.IntN.{neg_ℤ}
use Rattle.std.proofs.Math.ListN.{length}
use Rattle.laws.specs.Tabulate.{tabulate-at}
use Rattle.rules.specs.Composition.{simplify_cone}
use Rattle.rules.specs.Cone.{Cone, terms, cone_bit, values, cone_span}
use Rattle.rules.specs.NetworkText.{sources, all_different}
use Rattle.rules.specs.Span.{least}
use Rattle.theorems.specs.ConeValues.{linear_table-length}
use Rattle.theorems.specs.LinearTables.{lower, total, least_table, span_table}
use Rattle.theorems.specs.SourceRows.{over_rows_are, row_over, row_over_lt}
use Rattle.theorems.specs.Terms.{terms_over, coefs, coefs_of, sources_of}
use Rattle.theorems.specs.ZeroSources.{total_used, lower_used, used_value}

-- The row of the cone, at a row without those sources.
unfoldable pub row_in : Cone → ℕ → ℕ
row_in c i = row_over (simplify_cone c).support c.support i

module _ (c : Cone) (same : length c.coefficients ≡ length c.support) where
  all-coefs : coefs (terms c) ≡ c.coefficients
  unfolding terms terms_over
  all-coefs = coefs_of c.coefficients c.support same

  all-sources : sources (terms c) ≡ c.support
  unfolding terms terms_over
  all-sources = sources_of c.coefficients c.support same

  pub simplified_total : total (simplify_cone c).coefficients ≡ total c.coefficients
  unfolding simplify_cone
  simplified_total = total_used (terms c) ∙ ap total all-coefs

  pub simplified_least : least (values (simplify_cone c)) ≡ least (values c)
  unfolding simplify_cone values
  simplified_least =
      least_table (simplify_cone c).coefficients ∙ ap (λ n. neg_ℤ (pos n)) (lower_used (terms c) ∙ ap lower all-coefs) ∙ sym (least_table c.coefficients)

  pub simplified_span : cone_span (simplify_cone c) ≡ cone_span c
  unfolding cone_span values
  simplified_span = span_table (simplify_cone c).coefficients ∙ ap (λ n. n + 1) simplified_total ∙ sym (span_table c.coefficients)

  module _ (i : ℕ) (h : i < 2 ^ length (simplify_cone c).support) where
    pub row_in_lt : row_in c i < length (values c)
    unfolding row_in values
    row_in_lt = rw (linear_table-length c.coefficients, same) (row_over_lt (simplify_cone c).support c.support i)

    pub simplified_value : all_different (simplify_cone c).support ≡ true → get_or (values c) (row_in c i) (pos 0) ≡ get_or (values (simplify_cone c)) i (pos 0)
    unfolding simplify_cone values row_in
    simplified_value apart = rw (all-sources, all-coefs) at (used_value (terms c) apart i h)

    pub simplified_truth : get_or (simplify_cone c).truth i 0 ≡ get_or c.truth (row_in c i) 0
    unfolding simplify_cone cone_bit row_in row_over
    simplified_truth = rw (over_rows_are _) (tabulate-at (2 ^ length (simplify_cone c).support) _ i 0 h)
