-- The table of a cone. A cone has a valid encoding exactly where there is one, no longer than M: as long as the cone's span, with each row's truth at the row's
-- value, and such that a rotation gives it.
use Rattle.std.specs.Prelude.{◌≡◌, refl, true, List, [], ℕ, ◌≤◌, ◌<◌, T, leb, pos, nat_abs, ◌-ℤ◌, length, get_or, replicate}
use Rattle.std.proofs.Math.Path.{ap}
use Rattle.std.proofs.Common.{◌∙◌}
use Rattle.std.proofs.lemmas.Bool.{false≢true}
use Rattle.std.proofs.Math.Option
use Rattle.std.proofs.Math.Option.{Option, none, some}
use borrow.Author.Tests.{le-leb, leb-true}
use Rattle.laws.specs.Test.{is_some, T-is, both_left, both_right, zero≢one}
use Rattle.rules.specs.declared.Settings.{Settings}
use Rattle.rules.specs.Builder.{known_entries, opposed, completion, last_tried, completable}
use Rattle.rules.specs.Cone.{Cone, values, cone_span, completed, encoding, is_lut_valid, bootstrap_table}
use Rattle.rules.specs.Rotation.{rotatable}
use Rattle.rules.specs.Runs.{all_bits}
use Rattle.rules.specs.Span.{least, span}
use Rattle.theorems.specs.Bits.{bit_at, all-bits_of}
use Rattle.theorems.specs.Completions.{completion_is, completion_found}
use Rattle.theorems.specs.KnownRows.{known_fine}
use Rattle.theorems.specs.Rows.{within, entered, entered_left, unknown_completes}

-- It completes the rows.
pub record TableOf (P : ℕ) (c : Cone) (table : List ℕ) : Type 0 where
  pub long : length table ≡ cone_span c
  pub bits : T (all_bits table)
  pub turns : T (rotatable P table)
  pub agrees : (i : ℕ) → i < length (values c) → get_or table (nat_abs (get_or (values c) i (pos 0) -ℤ least (values c))) 0 ≡ get_or c.truth i 0

pub table_of : (P : ℕ) (c : Cone) (table : List ℕ) → length (values c) ≡ length c.truth → encoding P c ≡ some table → TableOf P c table
unfolding encoding completed cone_span known_entries
table_of P c table e f = by (known_entries (values c) c.truth) refl f
  where
    by : (o : Option (List ℕ)) → known_entries (values c) c.truth ≡ o → completed P o ≡ some table → TableOf P c table
    by none k g = absurd (zero≢one (cc))
    by (some l) k g =
        let fine = known_fine (values c) c.truth e l k in
        let is = completion_is l fine.0 P table g in
        record {
          long = is.0.long ∙ fine.1;
          bits = all-bits_of table (λ i h. is.0.bits i (rw is.0.long at h));
          turns = is.1;
          agrees = (entered_left (least (values c)) table (values c) c.truth (replicate (span (values c)) 2) l e (within (values c)) k is.0).1.at;
        }

-- ---- A table is found exactly where there is one.

module _ (P : ℕ) (c : Cone) (e : length (values c) ≡ length c.truth) where
  found_table : is_some (encoding P c) ≡ true → (t : List ℕ) × TableOf P c t
  found_table h = by (encoding P c) refl h
    where
      by : (o : Option (List ℕ)) → encoding P c ≡ o → is_some o ≡ true → (t : List ℕ) × TableOf P c t
      by none f h = absurd (false≢true h)
      by (some t) f h = (t, table_of P c t e f)

  table_found : (t : List ℕ) → TableOf P c t → is_some (encoding P c) ≡ true
  unfolding encoding completed completable known_entries cone_span
  table_found t k =
      let vs = values c in
      let r = entered (least vs) t vs c.truth (replicate (span vs) 2) e (within vs)
      (unknown_completes (span vs) t k.long (λ i h. bit_at t i k.bits)) (record { at = k.agrees }) in
      let f : known_entries vs c.truth ≡ some r.0 = r.1 in
      ap (λ o. is_some (completed P o)) f ∙ T-is _ (completion_found P r.0 t r.2 k.turns (known_fine vs c.truth e r.0 f).0)

module _ (s : Settings) (c : Cone) (e : length (values c) ≡ length c.truth) where
  pub valid_table : is_lut_valid s c ≡ true → (cone_span c ≤ s.m) × ((t : List ℕ) × TableOf s.p c t)
  unfolding is_lut_valid
  valid_table v = (
    leb-true (cone_span c) s.m (both_left (leb (cone_span c) s.m) _ v),
    found_table s.p c e (both_right (leb (cone_span c) s.m) (is_some (encoding s.p c)) v),
  )

  pub table_valid : cone_span c ≤ s.m → (t : List ℕ) → TableOf s.p c t → is_lut_valid s c ≡ true
  unfolding is_lut_valid
  table_valid h t k = rw (le-leb (cone_span c) s.m h, table_found s.p c e t k)

-- and it is the one that a bootstrap takes
pub encoding-taken : (P : ℕ) (c : Cone) → is_some (encoding P c) ≡ true → encoding P c ≡ some (bootstrap_table P c)
unfolding encoding bootstrap_table completed last_tried
encoding-taken P c = by (known_entries (values c) c.truth)
  where
    taken : (o : Option (List ℕ)) (d : List ℕ) → is_some o ≡ true → o ≡ some (Option.get_or o d)
    taken none d e = absurd (false≢true e)
    taken (some t) d e = refl

    by : (k : Option (List ℕ)) → is_some (completed P k) ≡ true → completed P k ≡ some (last_tried P (Option.get_or k []))
    by none e = absurd (false≢true e)
    by (some known) e = taken (completion P known) (opposed P known) e
