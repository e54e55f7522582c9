-- What `simplify_cone` answers, on the values: k is the cone, r the sources and coefficients that are kept.
use mathlib.Core.Path.{◌≡◌, sym, ap, ap₂, ◌∙◌}
use mathlib.Core.Bool.{true, false}
use mathlib.Core.List.{List}
use Prim.Native.Nat.{ℕ, ◌≤◌, ◌<◌, ◌^◌}
use native.Mathlib.Omega.{arith}
use lib.IntN.{ℤ, pos, nat_abs, ◌-ℤ◌}
use lib.ListN.{length, get_or, take}
use lib.Seq.{ext_get_or}
use Rattle.laws.specs.Select.{select, select_le, any}
use Rattle.rules.specs.declared.Entry.{Entry}
use Rattle.rules.specs.Cone as rules
use Rattle.rules.specs.Cone.{linear_table, terms}
use Rattle.rules.specs.Composition.{simplify_cone}
use Rattle.rules.specs.Network.{Term}
use Rattle.rules.specs.NetworkText.{sources, all_different}
use Rattle.rules.specs.Span.{least, span}
use Rattle.rules.specs.Store.{is_used}
use Rattle.theorems.specs.KnownRows.{hits, is_at}
use Rattle.theorems.specs.SimplifiedCones.{row_in, row_in_lt, simplified_total, simplified_least, simplified_span, simplified_value, simplified_truth}
use Rattle.theorems.specs.ZeroSources.{any_selected}
use Rattle.theorems.specs.ConeTruths.{over_rows-length}
use Rattle.theorems.specs.ConeValues.{linear_table-length}
use Rattle.cone.specs.declared.Cone.{Cone}
use Rattle.theorems.specs.LinearTables.{total}
use Rattle.cone.specs.Fields.{cone_from, Fits, fits, truths, truths-length, truths_entry}
use Rattle.cone.specs.View.{numbers, cone_of, sources_different, sources_near, narrow_total, view_sources, view_coefs, truth_entry, truth-bit, unknown}
use Rattle.compose.specs.declared.simplify.Retained.{Retained}
use Rattle.compose.specs.Simplify.{IsRetained, truth_over, different-sources, near_sources, simplified}
use Rattle.theorems.specs.Terms.{coefs, coefs_of, coefs_long, sources_of, terms-length, terms_over}

-- the terms that are used
abbrev pub used_of : rules.Cone → List Term
used_of v = select is_used (terms_over v.coefficients v.support)

same_fields : (n : ℕ) (support : List ℕ) (cs : List ℤ) (known : List Entry) {s : List ℕ} {c : List ℤ} {t : List ℕ} → take n support ≡ s → take n cs ≡ c
    → truths (take n cs) known ≡ t → cone_from n support cs known ≡ record { support = s; coefficients = c; truth = t }
same_fields n support cs known e f g = cc

module _ (k : Cone) (r : Retained) (kept : IsRetained (used_of (cone_of k)) r) where
  long : length (cone_of k).coefficients ≡ length (cone_of k).support
  long = view_coefs k ∙ sym (view_sources k)

  all : List Term
  all = terms_over (cone_of k).coefficients (cone_of k).support

  used : List Term
  used = used_of (cone_of k)

  sources_are : sources all ≡ (cone_of k).support
  unfolding all
  sources_are = sources_of (cone_of k).coefficients (cone_of k).support long

  coefs_are : coefs all ≡ (cone_of k).coefficients
  unfolding all
  coefs_are = coefs_of (cone_of k).coefficients (cone_of k).support long

  pub few : r.n ≤ 11
  few =
      omega (arith, kept.count, select_le is_used (terms_over (cone_of k).coefficients (cone_of k).support), terms-length (cone_of k).coefficients (cone_of k).support long, view_sources k, k.few)

  different : all_different (sources used) ≡ true
  unfolding used all
  different = different-sources is_used all (rw sources_are (sources_different k))

  -- the kept coefficients have the same least value and span
  same_low : least (linear_table (coefs used)) ≡ least (rules.values (cone_of k))
  unfolding used rules.values simplify_cone terms terms_over
  same_low = simplified_least (cone_of k) long

  same_total : total (coefs used) ≡ total (cone_of k).coefficients
  unfolding used simplify_cone terms terms_over
  same_total = simplified_total (cone_of k) long

  same_span : span (linear_table (coefs used)) ≡ span (rules.values (cone_of k))
  unfolding used rules.cone_span rules.values simplify_cone terms terms_over
  same_span = simplified_span (cone_of k) long

  -- and at each row the value, and so the truth, of the cone's row
  module _ (i : ℕ) (h : i < 2 ^ length (sources used)) where
    row : ℕ
    row = row_in (cone_of k) i

    row_in_lem : row < length (rules.values (cone_of k))
    unfolding row used simplify_cone terms terms_over
    row_in_lem = row_in_lt (cone_of k) long i h

    value_of : get_or (rules.values (cone_of k)) row (pos 0) ≡ get_or (linear_table (coefs used)) i (pos 0)
    unfolding row used rules.values simplify_cone terms terms_over
    value_of = simplified_value (cone_of k) long i h different

    row_truth : get_or (truth_over (sources used) (cone_of k)) i 0 ≡ get_or (cone_of k).truth row 0
    unfolding row used truth_over simplify_cone terms terms_over
    row_truth = simplified_truth (cone_of k) long i h

    truth_of : get_or (truths (coefs used) k.known) i 0 ≡ get_or (truth_over (sources used) (cone_of k)) i 0
    unfolding row
    truth_of =
        truths_entry (coefs used) k.known i (rw (linear_table-length (coefs used), ← coefs_long used) h)
        ∙ ap₂ (λ v l. get_or (numbers k.known) (nat_abs (v -ℤ l)) 0) (sym value_of) same_low
        ∙ sym (truth_entry k row row_in_lem)
        ∙ sym row_truth

    truth-small : get_or (truth_over (sources used) (cone_of k)) i 0 ≤ 1
    truth-small = rw row_truth (let b = truth-bit k row in omega arith)

  truths_are : truths (coefs used) k.known ≡ truth_over (sources used) (cone_of k)
  truths_are =
      let e : length (truths (coefs used) k.known) ≡ 2 ^ length (sources used) =
      (sym (truths-length (coefs used) k.known) ∙ linear_table-length (coefs used) ∙ ap (λ n. 2 ^ n) (sym (coefs_long used))) in
      ext_get_or 0 _ _ (e ∙ sym (unfold truth_over in (over_rows-length (sources used) (λ bit. rules.cone_bit bit (cone_of k))))) (λ i h. truth_of i (rw e at h))

  abbrev seen : rules.Cone
  seen = record { support = sources used; coefficients = coefs used; truth = truth_over (sources used) (cone_of k) }

  view : cone_from r.n r.support r.coefs k.known ≡ seen
  unfolding used
  view = same_fields r.n r.support r.coefs k.known kept.nodes kept.values (ap (λ l. truths l k.known) kept.values ∙ truths_are)

  -- no value that had a row is without one
  unhit : (j : ℕ) → hits (least (linear_table (coefs used))) (linear_table (coefs used)) j ≡ false → hits (least (rules.values (cone_of k))) (rules.values (cone_of k)) j ≡ false
  unfolding hits used all rules.values
  unhit j h =
      ap (λ l. any (is_at l j) (linear_table (cone_of k).coefficients)) (sym same_low)
      ∙ ap (λ l. any (is_at (least (linear_table (coefs used))) j) (linear_table l)) (sym coefs_are)
      ∙ sym (any_selected (is_at (least (linear_table (coefs used))) j) all) ∙ h

  pub rebuilt_fits : Fits r.n r.support r.coefs k.known
  unfolding rules.values used all
  rebuilt_fits =
      fits r.n r.support r.coefs k.known seen view k.entries_long few different (omega (arith, same_total, narrow_total k))
      (near_sources is_used 672 (omega arith) all (λ i. rw sources_are (sources_near k i)))
      (λ i h. truth-small i (rw (linear_table-length (coefs used), ← coefs_long used) at h))
      (λ j l h. unknown k j (rw (← same_span) l) (unhit j h))

  pub rebuilt : cone_from r.n r.support r.coefs k.known ≡ simplify_cone (cone_of k)
  unfolding used all
  rebuilt = view ∙ sym (simplified (cone_of k))
