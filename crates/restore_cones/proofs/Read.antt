-- A cone read from its cell: what its fields are, and that a good cone comes back.
use Rattle.std.specs.Prelude.{◌≡◌, List, ℕ, ◌+◌, ◌*◌, ◌≤◌, ℤ, length, get_or, take, drop}
use Rattle.std.proofs.Common.{sym, subst, ap, ap₂, ◌∙◌, arith}
use Rattle.std.proofs.Math.Option.{some}
use Rattle.std.proofs.lemmas.List.{length-map}
use Rattle.laws.specs.Tabulate.{tabulate}
use Rattle.rules.specs.declared.Entry.{Entry}
use Rattle.rules.specs.Builder.{known_entries}
use Rattle.rules.specs.Cone as C
use Rattle.rules.specs.Cone.{linear_table}
use Rattle.rules.specs.NetworkText.{all_different}
use Rattle.rules.specs.Span.{span}
use Rattle.retuning.specs.Kept.{cone_cell}
use Rattle.retuning.specs.GoodState.{GoodCone}
use Rattle.theorems.specs.ConeValues.{values_long}
use Rattle.theorems.specs.LinearTables.{span_table}
use Rattle.rotation.specs.Entries.{numbers}
use Rattle.cone.specs.Fields.{Fits, cone_from, truth_at, truths, truths_made, made_held}
use Rattle.cone.specs.Sources.{AllBelow, below_store}
use Rattle.restore_cones.specs.Cell.{source_at, coefficient_at, truths_in, Sources}
use Rattle.restore_cones.proofs.Bytes.{count_read, sources_read, coefficients_read, entry_read}
use Rattle.restore_cones.proofs.Truths.{truths_read}

-- What was read from a cell, before it is judged.
pub record Fields (n : ℕ) (cell support entries : List ℕ) (coefs : List ℤ) : Type 0 where
  pub count : n ≡ get_or cell 0 0
  pub sources : support ≡ tabulate 11 (source_at cell)
  pub coefficients : coefs ≡ tabulate 11 (coefficient_at cell (1 + 2 * n))
  pub rest : entries ≡ drop (1 + 3 * n) cell

-- What was read and judged: known entries that the entries' truths make.
pub record Judged (nodes n : ℕ) (support entries : List ℕ) (coefs : List ℤ) (known : List Entry) : Type 0 where
  pub near : nodes ≤ 672
  pub few : n ≤ 11
  pub sources : Sources nodes (take n support)
  pub narrow : span (linear_table (take n coefs)) ≤ 32
  pub made : some (numbers (take (span (linear_table (take n coefs))) known)) ≡ known_entries (linear_table (take n coefs)) (truths_in (take n coefs) entries)

module _ {nodes n : ℕ} {support entries : List ℕ} {coefs : List ℤ} {known : List Entry} (j : Judged nodes n support entries coefs known) where
  same : length (linear_table (take n coefs)) ≡ length (truths_in (take n coefs) entries)
  same = sym (length-map (linear_table (take n coefs)) (truth_at (take n coefs) entries))

  pub read_fits : Fits n support coefs known
  read_fits =
      record {
        few = j.few;
        form = record { different = j.sources.different; near = below_store nodes (take n support) j.sources.below j.near; narrow = j.narrow };
        held = made_held (take n coefs) (truths_in (take n coefs) entries) same known (sym j.made);
      }

  pub read_truths : truths (take n coefs) known ≡ truths_in (take n coefs) entries
  read_truths = truths_made (take n coefs) (truths_in (take n coefs) entries) same known (sym j.made)

-- ---- the cell of a good cone
module _ {nodes n : ℕ} {cell support entries : List ℕ} {coefs : List ℤ} {c : C.Cone} (f : Fields n cell support entries coefs)
    (g : GoodCone nodes c) (is : cell ≡ cone_cell c) where
  count_is : n ≡ length c.support
  count_is = f.count ∙ ap (λ l. get_or l 0 0) is ∙ count_read nodes c g

  pub few_good : n ≤ 11
  few_good = omega (arith, count_is, g.few)

  support_is : take n support ≡ c.support
  support_is = ap₂ take count_is (f.sources ∙ ap (λ l. tabulate 11 (source_at l)) is) ∙ sources_read nodes c g

  coefs_are : take n coefs ≡ c.coefficients
  coefs_are = ap₂ take count_is (f.coefficients ∙ ap₂ (λ l m. tabulate 11 (coefficient_at l (1 + 2 * m))) is count_is) ∙ coefficients_read nodes c g

  pub sources_good : Sources nodes (take n support)
  sources_good = record { different = ap all_different support_is ∙ g.different; below = subst (AllBelow nodes) (sym support_is) g.below }

  pub narrow_good : span (linear_table (take n coefs)) ≤ 32
  narrow_good = rw coefs_are (omega (arith, span_table c.coefficients, g.narrow))

  truths_good : truths_in (take n coefs) entries ≡ c.truth
  unfolding C.values
  truths_good =
      ap₂ truths_in coefs_are (f.rest ∙ ap₂ (λ m l. drop (1 + 3 * m) l) count_is is)
      ∙ truths_read c.coefficients c.truth g.entries.0 (values_long c g.same g.rows) g.entries.1 (drop (1 + 3 * length c.support) (cone_cell c)) (entry_read nodes c g)

  pub known_good : known_entries (linear_table (take n coefs)) (truths_in (take n coefs) entries) ≡ some g.entries.0
  unfolding C.values
  known_good = ap₂ known_entries (ap linear_table coefs_are) truths_good ∙ g.entries.1

  pub cone_back : (known : List Entry) → truths (take n coefs) known ≡ truths_in (take n coefs) entries → cone_from n support coefs known ≡ c
  cone_back known e =
      ap {B = C.Cone} (λ (x : List ℕ). record { support = x; coefficients = take n coefs; truth = truths (take n coefs) known }) support_is
      ∙ ap {B = C.Cone} (λ (x : List ℤ). record { support = c.support; coefficients = x; truth = truths (take n coefs) known }) coefs_are
      ∙ ap {B = C.Cone} (λ (x : List ℕ). record { support = c.support; coefficients = c.coefficients; truth = x }) (e ∙ truths_good)
