-- A cone as the code holds it, seen as the definition's.
use Rattle.std.specs.Prelude.{◌≡◌, refl, true, false, ℕ, ◌+◌, ◌≤◌, ◌<◌, ◌^◌, pos, nat_abs, length, get_or, take, ◌≤ℤ◌, Option, Some, None}
use Rattle.std.proofs.Math.Path.{sym}
use Rattle.std.proofs.Common.{ap, ◌∙◌, ⊎_elim, arith, get_or-take}
use Rattle.std.proofs.Math.Option.{some}
use Rattle.std.proofs.Math.ListN.{get_or-eq_default}
use Rattle.std.proofs.Math.Seq.{length-take-le}
use Rattle.laws.specs.Integer.{ints, plus, minus, plus_neg}
use Rattle.laws.specs.Test.{if◌then◌otherwise◌, lt_or_le}
use Rattle.rules.specs.Builder.{known_entries}
use Rattle.rules.specs.Cone as rules
use Rattle.rules.specs.Mapper.{is_constant, constant_value}
use Rattle.rules.specs.NetworkText.{all_different}
use Rattle.rules.specs.Span.{least, span}
use Rattle.scale.specs.Limits.{Within}
use Rattle.theorems.specs.KnownRows.{hits, known_unhit}
use Rattle.theorems.specs.Rows.{offset, known_exact}
use Rattle.theorems.specs.Spans.{offset_lt}
pub use Rattle.rotation.specs.Entries.{numbers, numbers_take}
use Rattle.cone.specs.Fields.{cone_from, truths-length, truths_entry}
use Rattle.cone.specs.declared.Cone.{Cone}
use Rattle.linear.specs.Span.{within_total, narrow_low}
use Rattle.linear.specs.Table.{few_rows}
use Rattle.theorems.specs.LinearTables.{least_table, lower, span_table, total}
use Rattle.theorems.specs.ConeValues.{linear_table-length}

-- what its fields stand for
unfoldable pub cone_of : Cone → rules.Cone
cone_of c = cone_from c.n c.support c.coefs c.known

-- constant_value
unfoldable pub constant_of : rules.Cone → Option ℕ
constant_of c = if is_constant c then Some (constant_value c) otherwise None

-- ---- laws

span-total : (c : rules.Cone) → rules.cone_span c ≡ total c.coefficients + 1
unfolding rules.cone_span rules.values
span-total c = span_table c.coefficients

module _ (c : Cone) where
  -- as many rows as values, and each has the entry of its value
  pub truth-length : length (rules.values (cone_of c)) ≡ length (cone_of c).truth
  unfolding cone_of rules.values
  truth-length = truths-length (take c.n c.coefs) c.known

  pub truth_entry : (i : ℕ) → i < length (rules.values (cone_of c))
      → get_or (cone_of c).truth i 0 ≡ get_or (numbers c.known) (offset (least (rules.values (cone_of c))) (rules.values (cone_of c)) i) 0
  unfolding cone_of rules.values
  truth_entry i h = truths_entry (take c.n c.coefs) c.known i h

  pub rows_are : length (rules.values (cone_of c)) ≡ 2 ^ length (cone_of c).coefficients
  unfolding rules.values
  rows_are = linear_table-length (cone_of c).coefficients

  -- what its ghost fields say
  pub sources_different : all_different (cone_of c).support ≡ true
  unfolding cone_of
  sources_different = c.different

  pub sources_near : (i : ℕ) → get_or (cone_of c).support i 0 < 672
  unfolding cone_of
  sources_near = c.near

  pub span_narrow : rules.cone_span (cone_of c) ≤ 32
  unfolding cone_of rules.cone_span rules.values
  span_narrow = c.narrow

  pub entries_held : known_entries (rules.values (cone_of c)) (cone_of c).truth ≡ some (numbers (take (rules.cone_span (cone_of c)) c.known))
  unfolding cone_of rules.cone_span rules.values
  entries_held = c.held

module _ (c : Cone) where
  pub narrow_total : total (cone_of c).coefficients ≤ 31
  narrow_total = omega (arith, span_narrow c, span-total (cone_of c))

  pub small : Within 31 (cone_of c).coefficients
  small i = omega (arith, narrow_total, within_total (cone_of c).coefficients i)

  pub view_sources : length (cone_of c).support ≡ c.n
  unfolding cone_of
  view_sources = length-take-le c.n c.support (omega (arith, c.few, c.support_long))

  pub view_coefs : length (cone_of c).coefficients ≡ c.n
  unfolding cone_of
  view_coefs = length-take-le c.n c.coefs (omega (arith, c.few, c.coefs_long))

  pub rows_fit : 2 ^ c.n ≤ 2048
  rows_fit = few_rows c.n c.few

  pub view_rows : length (cone_of c).truth ≡ 2 ^ c.n
  view_rows = sym (truth-length c) ∙ rows_are c ∙ ap (λ k. 2 ^ k) view_coefs

  -- each truth is a bit, and an entry of the span where no row is is unknown
  pub row_bit : (i : ℕ) → i < length (rules.values (cone_of c)) → get_or (cone_of c).truth i 0 ≤ 1
  row_bit i h = ((known_exact (rules.values (cone_of c)) (cone_of c).truth (truth-length c)).0 (_, entries_held c)).bits i h

  pub truth-bit : (i : ℕ) → get_or (cone_of c).truth i 0 < 2
  truth-bit i =
      ⊎_elim
      (λ (h : i < length (rules.values (cone_of c))). omega (arith, row_bit i h))
      (λ (h : length (rules.values (cone_of c)) ≤ i). rw (get_or-eq_default (cone_of c).truth 0 {n = i} (rw (← truth-length c) h)) (omega arith))
      (lt_or_le i (length (rules.values (cone_of c))))

  entries : known_entries (rules.values (cone_of c)) (cone_of c).truth ≡ some (take (span (rules.values (cone_of c))) (numbers c.known))
  unfolding rules.cone_span
  entries = entries_held c ∙ ap some (sym (numbers_take (span (rules.values (cone_of c))) c.known))

  pub unknown : (j : ℕ) → j < span (rules.values (cone_of c)) → hits (least (rules.values (cone_of c))) (rules.values (cone_of c)) j ≡ false → get_or (numbers c.known) j 0 ≡ 2
  unknown j l h = sym (get_or-take (span (rules.values (cone_of c))) (numbers c.known) j 0 l) ∙ known_unhit (rules.values (cone_of c)) (cone_of c).truth (truth-length c) _ entries j l h

  pub in_entries : (j : ℕ) → j < span (rules.values (cone_of c)) → j < 32
  unfolding rules.cone_span
  in_entries j h = omega (arith, span_narrow c)

  -- the place of a row is within the span, and so within the entries
  pub row_place : (i : ℕ) → i < length (rules.values (cone_of c)) → offset (least (rules.values (cone_of c))) (rules.values (cone_of c)) i < 32
  row_place i h = in_entries (offset (least (rules.values (cone_of c))) (rules.values (cone_of c)) i) (offset_lt (rules.values (cone_of c)) i h)

  -- the least value is not above 0, and small
  low_plus : plus (least (rules.values (cone_of c))) ≡ 0
  unfolding rules.values plus minus
  low_plus = rw (least_table (cone_of c).coefficients, plus_neg (pos (lower (cone_of c).coefficients))) refl

  pub low_below : least (rules.values (cone_of c)) ≤ℤ pos 0
  unfolding plus minus
  low_below = omega (arith, ints, low_plus)

  pub low_small : nat_abs (least (rules.values (cone_of c))) ≤ 31
  unfolding rules.values rules.cone_span
  low_small = narrow_low (cone_of c).coefficients (span_narrow c)
