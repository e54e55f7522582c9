-- A cone by the fields of the code's struct: what they stand for, and what has to hold of them. The struct's ghost fields say it, so that it isn't named here.
use Rattle.std.specs.Prelude.{◌≡◌, true, false, List, map, ℕ, ◌≤◌, ◌<◌, ℤ, pos, length, get_or, take}
use Rattle.std.proofs.Math.Path.{sym}
use Rattle.std.proofs.Common.{ap, ◌∙◌, arith, get_or-take}
use Rattle.std.proofs.Math.Option.{some}
use Rattle.std.proofs.Math.Seq.{ext_get_or}
use Rattle.std.proofs.lemmas.List.{length-map}
use Rattle.std.proofs.Props.{props}
use Rattle.laws.specs.Lists.{map_at}
use Rattle.rules.specs.declared.Entry.{Entry}
use Rattle.rules.specs.Builder.{known_entries}
use Rattle.rules.specs.Cone as rules
use Rattle.rules.specs.Cone.{linear_table}
use Rattle.rules.specs.NetworkText.{all_different}
use Rattle.rules.specs.Span.{least, span}
use Rattle.rotation.specs.Entries.{numbers, numbers_take, numbers-length}
use Rattle.known_rows.specs.Entries.{entry_at}
use Rattle.theorems.specs.KnownRows.{hits, known_held, known-hit}
use Rattle.theorems.specs.LinearTables.{span_table, total}
use Rattle.theorems.specs.Rows.{offset}
use Rattle.theorems.specs.Spans.{offset_lt}

unfoldable pub truth_at : List ℤ → List ℕ → ℤ → ℕ
truth_at coefs known v = entry_at (least (linear_table coefs)) known v

-- at each assignment of the coefficients' sources the entry of its value
abbrev pub truths : List ℤ → List Entry → List ℕ
truths coefs known = map (truth_at coefs (numbers known)) (linear_table coefs)

-- the first n sources and coefficients, and their truths
abbrev pub cone_from : ℕ → List ℕ → List ℤ → List Entry → rules.Cone
cone_from n support coefs known = record { support = take n support; coefficients = take n coefs; truth = truths (take n coefs) known }

-- The entries within the span are those that the rows make known: 0 or 1 at the value of a row, 2 elsewhere.
abbrev pub Held : List ℤ → List Entry → Type 0
Held coefs known = known_entries (linear_table coefs) (truths coefs known) ≡ some (numbers (take (span (linear_table coefs)) known))

-- What holds of a cone's sources and of its coefficients.
pub record Form (n : ℕ) (support : List ℕ) (coefs : List ℤ) : Type 0 where
  pub different : all_different (take n support) ≡ true
  pub near : (i : ℕ) → get_or (take n support) i 0 < 672
  pub narrow : span (linear_table (take n coefs)) ≤ 32

-- What holds of a cone's fields beside their lengths.
pub record Fits (n : ℕ) (support : List ℕ) (coefs : List ℤ) (known : List Entry) : Type 0 where
  pub few : n ≤ 11
  pub form : Form n support coefs
  pub held : Held (take n coefs) known

-- ---- laws

pub Held_prop : (coefs : List ℤ) (known : List Entry) → IsProp (Held coefs known)
Held_prop coefs known = Prim.hlevel props

-- as many truths as values, and each is the entry of its value
module _ (coefs : List ℤ) (known : List Entry) where
  pub truths-length : length (linear_table coefs) ≡ length (truths coefs known)
  truths-length = sym (length-map (linear_table coefs) (truth_at coefs (numbers known)))

  pub truths_entry : (i : ℕ) → i < length (linear_table coefs) → get_or (truths coefs known) i 0 ≡ get_or (numbers known) (offset (least (linear_table coefs)) (linear_table coefs) i) 0
  unfolding truth_at entry_at
  truths_entry i h = map_at _ (linear_table coefs) i (pos 0) 0 h

-- entries that some truths made give them back
module _ (coefs : List ℤ) (ts : List ℕ) (same : length (linear_table coefs) ≡ length ts) (known : List Entry)
    (made : known_entries (linear_table coefs) ts ≡ some (numbers (take (span (linear_table coefs)) known))) where
  entry_made : (i : ℕ) → i < length (linear_table coefs) → get_or (numbers known) (offset (least (linear_table coefs)) (linear_table coefs) i) 0 ≡ get_or ts i 0
  entry_made i h =
      let values = linear_table coefs in
      sym (get_or-take (span values) (numbers known) (offset (least values) values i) 0 (offset_lt values i h))
      ∙ known-hit values ts same (take (span values) (numbers known)) (made ∙ ap some (sym (numbers_take (span values) known))) i h

  pub truths_made : truths coefs known ≡ ts
  truths_made =
      ext_get_or 0 (truths coefs known) ts (sym (truths-length coefs known) ∙ same)
      (λ i h. let l : i < length (linear_table coefs) = rw (truths-length coefs known) h in truths_entry coefs known i l ∙ entry_made i l)

  pub made_held : Held coefs known
  made_held = ap (known_entries (linear_table coefs)) truths_made ∙ made

-- the fields of a cone that is seen as v
pub fits : (n : ℕ) (support : List ℕ) (coefs : List ℤ) (known : List Entry) (v : rules.Cone) → cone_from n support coefs known ≡ v → length known ≡ 32 → n ≤ 11 → all_different v.support ≡ true
    → total v.coefficients ≤ 31
    → ((i : ℕ) → get_or v.support i 0 < 672)
    → ((i : ℕ) → i < length (rules.values v) → get_or v.truth i 0 ≤ 1)
    → ((j : ℕ) → j < span (rules.values v) → hits (least (rules.values v)) (rules.values v) j ≡ false → get_or (numbers known) j 0 ≡ 2)
    → Fits n support coefs known
unfolding rules.values
fits n support coefs known v e long few d t near bits rest =
    let cs : take n coefs ≡ v.coefficients = ap (λ (k : rules.Cone). k.coefficients) e in
    let narrow : span (linear_table (take n coefs)) ≤ 32 = rw cs (omega (arith, span_table v.coefficients)) in
    record {
      few = few;
      form =
          record {
            different = ap (λ (k : rules.Cone). all_different k.support) e ∙ d;
            near = λ i. rw (ap (λ (k : rules.Cone). k.support) e) (near i);
            narrow = narrow;
          };
      held = known_held (linear_table (take n coefs)) (truths (take n coefs) known) (truths-length (take n coefs) known) (numbers known) (omega (arith, numbers-length known))
          (record { at = λ i h. sym (truths_entry (take n coefs) known i h) })
          (λ i h. rw (ap (λ (k : rules.Cone). k.truth) e) (bits i (rw cs at h)))
          (λ j l h. rest j (rw cs at l) (rw cs at h))
          ∙ ap some (numbers_take (span (linear_table (take n coefs))) known);
    }
