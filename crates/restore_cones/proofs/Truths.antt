-- The truths that entries give the rows of a table, as they are looked up and as they were before the entries were kept.
use Rattle.std.specs.Prelude.{◌≡◌, List, map, ℕ, ◌^◌, ◌<◌, ℤ, pos, length, get_or, take, Option}
use Rattle.std.proofs.Common.{sym, ap, ap₂, ◌∙◌}
use Rattle.std.proofs.Math.Option.{some}
use Rattle.std.proofs.Math.Seq.{ext_get_or}
use Rattle.std.proofs.lemmas.List.{length-map}
use Rattle.laws.specs.Lists.{map_at}
use Rattle.laws.specs.Over.{over, take-over}
use Rattle.rules.specs.declared.Entry.{Entry}
use Rattle.rules.specs.Builder.{known_entries}
use Rattle.rules.specs.Cone.{linear_table}
use Rattle.rules.specs.Span.{least, span}
use Rattle.theorems.specs.ConeValues.{linear_table-length}
use Rattle.theorems.specs.KnownRows.{known_fine, known-hit}
use Rattle.theorems.specs.Rows.{offset}
use Rattle.theorems.specs.Spans.{offset_lt}
use Rattle.linear.specs.Table.{values_first}
use Rattle.known_rows.specs.Entries.{entry_at, first_numbers}
use Rattle.cone.specs.Fields.{truth_at}
use Rattle.restore_cones.specs.Cell.{truths_in}

-- ---- the truths at the first rows of a table
module _ (coefs vs ts : List ℤ) (rows : ℕ) (count : rows ≡ 2 ^ length coefs) (e : vs ≡ over (linear_table coefs) ts) where
  first_rows : take rows vs ≡ linear_table coefs
  first_rows = values_first coefs vs ts rows count e

  module _ (low : ℤ) (is : low ≡ least (linear_table coefs)) (entries looked d : List ℕ) (f : looked ≡ over (map (entry_at low entries) (take rows vs)) d) where
    first_truths : take rows looked ≡ truths_in coefs entries
    unfolding truth_at
    first_truths =
        ap (take rows) f
        ∙ take-over (map (entry_at low entries) (take rows vs)) d rows
        (length-map (take rows vs) (entry_at low entries) ∙ ap length first_rows ∙ linear_table-length coefs ∙ sym count)
        ∙ ap₂ (λ z v. map (entry_at z entries) v) is first_rows

    pub entered : (r : Option (List Entry)) → first_numbers (span (take rows vs)) r ≡ known_entries (take rows vs) (take rows looked)
        → first_numbers (span (linear_table coefs)) r ≡ known_entries (linear_table coefs) (truths_in coefs entries)
    entered r g = ap (λ v. first_numbers (span v) r) (sym first_rows) ∙ g ∙ ap₂ known_entries first_rows first_truths

-- ---- entries that begin with those of some truths
module _ (coefs : List ℤ) (ts known : List ℕ) (same : length (linear_table coefs) ≡ length ts) (e : known_entries (linear_table coefs) ts ≡ some known) where
  known-length : length known ≡ span (linear_table coefs)
  known-length = (known_fine (linear_table coefs) ts same known e).1

  pub truths_read : (entries : List ℕ) → ((j : ℕ) → j < length known → get_or entries j 0 ≡ get_or known j 0) → truths_in coefs entries ≡ ts
  unfolding truth_at entry_at
  truths_read entries at =
      let values = linear_table coefs in
      ext_get_or 0 (truths_in coefs entries) ts (length-map values (truth_at coefs entries) ∙ same)
      (λ i h. let l : i < length values = rw (← length-map values (truth_at coefs entries)) h in
      let place : offset (least values) values i < length known = rw known-length (offset_lt values i l) in
      map_at (truth_at coefs entries) values i (pos 0) 0 l ∙ at (offset (least values) values i) place ∙ known-hit values ts same known e i l)
