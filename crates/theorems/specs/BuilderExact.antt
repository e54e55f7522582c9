-- The table builder is exact: a table is answered exactly when some completion of the rows can be rotated, and it is such a completion.
use Rattle.std.proofs.Math.Path.{◌≡◌, refl, ap}
use Rattle.std.proofs.Common.{◌∙◌, arith, leb→le}
use Rattle.std.specs.Prelude.{Bool, false, ◌&&◌, List, ◌↔◌, ℕ, ◌*◌, ◌<◌, ◌≤◌, leb, ℤ, pos, nat_abs, ◌-ℤ◌, get_or, replicate}
use Rattle.std.proofs.Math.Bool.{true}
use Rattle.std.proofs.Math.Logic.{⊎_elim}
use Rattle.std.proofs.Math.Option.{Option, none, some}
use borrow.Author.Tests.{le-leb, eq-eqb, ne_eqb, lt-ltb, le-ltb}
use Rattle.std.proofs.Math.ListN.{length, length-replicate}
use Rattle.laws.specs.Over.{over}
use Rattle.laws.specs.Test.{lt_or_le, eq-or-ne, is_T, and_left, and_right}
use Rattle.rules.specs.Rotation.{Rotatable, centre_of}
use Rattle.rules.specs.Span.{least, span}
use Rattle.rules.specs.Builder.{Entries, known_entries, completion, table_limits, with_table, no_table, Built, built, from_table, from_known, builder}
use Rattle.theorems.specs.RotationRule.{rotation_rule}
use Rattle.theorems.specs.Completions.{some_table, completion_is, completion_found}
use Rattle.theorems.specs.Rows.{within, entered, entered_left, entered_entries, unknown_entries, unknown_completes}

-- The settings, the lists' lengths and the buffer are in order: a table of at most M bits, should there be one, fits the buffer.
pub record InOrder (P M : ℕ) (values : List ℤ) (truths buffer : List ℕ) : Type 0 where
  pub period : (2 ≤ P) × (P ≤ 16)
  pub longest : (P ≤ M) × (M ≤ 2 * P)
  pub lengths : length values ≡ length truths
  pub room : span values ≤ M → span values ≤ length buffer

-- t completes the rows: it has at most M bits, as many as the span, a rotation gives it, and each row's truth is its bit at the row's value, the least value's first.
pub record Completion (P M : ℕ) (values : List ℤ) (truths t : List ℕ) : Type 0 where
  pub long : length t ≡ span values
  pub most : length t ≤ M
  pub bits : (i : ℕ) → i < length t → get_or t i 0 ≤ 1
  pub turns : Rotatable P t
  pub agrees : (i : ℕ) → i < length values → get_or t (nat_abs (get_or values i (pos 0) -ℤ least values)) 0 ≡ get_or truths i 0

-- The reply is a table.
abbrev pub Accepted : (P M : ℕ) (values : List ℤ) (truths buffer : List ℕ) → Type 0
Accepted P M values truths buffer = (builder P M values truths buffer).answer.number ≡ 0

-- The reply is this table, written from the buffer's start, and its centre.
abbrev pub Answers : (P M : ℕ) (values : List ℤ) (truths buffer t : List ℕ) → Type 0
Answers P M values truths buffer t = builder P M values truths buffer ≡ built (with_table (length t) (centre_of P t)) (over t buffer)

-- ---- the definition's tests in turn
from_table_lem : (P : ℕ) (buffer t : List ℕ) → length t ≤ length buffer → from_table P buffer (some t) ≡ built (with_table (length t) (centre_of P t)) (over t buffer)
unfolding from_table
from_table_lem P buffer t h = rw (le-ltb (length buffer) (length t) h)

too_short : (P : ℕ) (buffer t : List ℕ) → length buffer < length t → from_table P buffer (some t) ≡ built (no_table 34) buffer
unfolding from_table
too_short P buffer t h = rw (lt-ltb (length buffer) (length t) h)

-- a table within the limits fits 32 bytes
pub limits_period : (P M : ℕ) → table_limits P M ≡ true → P ≤ 16
unfolding table_limits
limits_period P M e =
    let least = and_left (leb 2 P && leb P 16 && leb P M) (leb M (2 * P)) (is_T (table_limits P M) e) in
    leb→le P 16 (and_right (leb 2 P) (leb P 16) (and_left (leb 2 P && leb P 16) (leb P M) least))

pub limits_most : (P M : ℕ) → table_limits P M ≡ true → M ≤ 32
unfolding table_limits
limits_most P M e =
    let longest = leb→le M (2 * P) (and_right (leb 2 P && leb P 16 && leb P M) (leb M (2 * P)) (is_T (table_limits P M) e)) in
    omega (arith, limits_period P M e)

module _ (P M : ℕ) (values : List ℤ) (truths buffer : List ℕ) where
  pub bad_settings : table_limits P M ≡ false → builder P M values truths buffer ≡ built (no_table 2) buffer
  unfolding builder
  bad_settings e = rw e

  module _ (limits : table_limits P M ≡ true) where
    pub lengths_differ : (length values ≡ length truths → ⊥) → builder P M values truths buffer ≡ built (no_table 30) buffer
    unfolding builder
    lengths_differ n = rw (limits, ne_eqb (length values) (length truths) n)

    module _ (same : length values ≡ length truths) where
      pub no_row : length values ≡ 0 → builder P M values truths buffer ≡ built (no_table 30) buffer
      unfolding builder
      no_row h = rw (limits, eq-eqb (length values) (length truths) same, eq-eqb (length values) 0 h)

      pub too_long_lem : (length values ≡ 0 → ⊥) → M < span values → builder P M values truths buffer ≡ built (no_table 31) buffer
      unfolding builder
      too_long_lem n h = rw (limits, eq-eqb (length values) (length truths) same, ne_eqb (length values) 0 n, lt-ltb M (span values) h)

      pub from_rows : (length values ≡ 0 → ⊥) → span values ≤ M → builder P M values truths buffer ≡ from_known P buffer (known_entries values truths)
      unfolding builder
      from_rows n h = rw (limits, eq-eqb (length values) (length truths) same, ne_eqb (length values) 0 n, le-ltb M (span values) h)

module _ (P M : ℕ) (values : List ℤ) (truths buffer : List ℕ) where
  -- ---- what is found from the rows' known entries
  module _ (same : length values ≡ length truths) (k : List ℕ) (e : known_entries values truths ≡ some k) where
    whole : Entries k × (length k ≡ span values)
    unfolding known_entries
    whole =
        let r = entered_entries (least values) values truths (replicate (span values) 2) k e (unknown_entries (span values)) in
        (r.0, r.1 ∙ length-replicate {A = ℕ} (span values) 2)

    found : (t : List ℕ) → completion P k ≡ some t → span values ≤ M → Completion P M values truths t
    unfolding known_entries
    found t f l =
        let is = completion_is k whole.0 P t f in
        let n = is.0.long ∙ whole.1 in
        let back = entered_left (least values) t values truths (replicate (span values) 2) k same (within values) e is.0 in
        record {
          long = n;
          most = omega arith;
          bits = λ i h. is.0.bits i (rw is.0.long at h);
          turns = (rotation_rule P t).decides.0 is.1;
          agrees = back.1.at;
        }

  abbrev Found : Type 0
  Found = (t : List ℕ) × Completion P M values truths t × Answers P M values truths buffer t

  module _ (limits : table_limits P M ≡ true) (same : length values ≡ length truths) (n : length values ≡ 0 → ⊥) (l : span values ≤ M) where
    replied : (k : List ℕ) → known_entries values truths ≡ some k → (t : List ℕ) → completion P k ≡ some t → length t ≤ length buffer
        → Answers P M values truths buffer t
    unfolding from_known
    replied k e t f h = from_rows P M values truths buffer limits same n l ∙ rw (e, f) (from_table_lem P buffer t h)

    by_table : (k : List ℕ) → known_entries values truths ≡ some k → (c : Option (List ℕ)) → completion P k ≡ c
        → (from_table P buffer c).answer.number ≡ 0 → Found
    unfolding from_table
    by_table k e none f a = absurd (omega arith)
    by_table k e (some t) f a =
        ⊎_elim
        (λ (h : length buffer < length t). absurd (let q : ◌≡◌ {A = ℕ} 34 0 = rw (too_short P buffer t h) at a in omega arith))
        (λ (h : length t ≤ length buffer). (t, found same k e t f l, replied k e t f h))
        (lt_or_le (length buffer) (length t))

    by_known : (c : Option (List ℕ)) → known_entries values truths ≡ c → (from_known P buffer c).answer.number ≡ 0 → Found
    unfolding from_known
    by_known none e a = absurd (omega arith)
    by_known (some k) e a = by_table k e (completion P k) refl a

  -- ---- a table answered completes the rows, whatever the settings, the lists and the buffer are
  by_lengths : table_limits P M ≡ true → Accepted P M values truths buffer → (0 < length values) × Found
  by_lengths limits a =
      ⊎_elim
      (λ (same : length values ≡ length truths).
      ⊎_elim
      (λ (n : length values ≡ 0). absurd (let q : ◌≡◌ {A = ℕ} 30 0 = rw (no_row P M values truths buffer limits same n) at a in omega arith))
      (λ (n : length values ≡ 0 → ⊥).
      ⊎_elim
      (λ (l : M < span values). absurd (let q : ◌≡◌ {A = ℕ} 31 0 = rw (too_long_lem P M values truths buffer limits same n l) at a in omega arith))
      (λ (l : span values ≤ M).
      (omega arith, by_known limits same n l (known_entries values truths) refl (rw (from_rows P M values truths buffer limits same n l) at a)))
      (lt_or_le M (span values)))
      (eq-or-ne (length values) 0))
      (λ (d : length values ≡ length truths → ⊥). absurd (let q : ◌≡◌ {A = ℕ} 30 0 = rw (lengths_differ P M values truths buffer limits d) at a in omega arith))
      (eq-or-ne (length values) (length truths))

  by_limits : (b : Bool) → table_limits P M ≡ b → Accepted P M values truths buffer → (0 < length values) × Found
  by_limits true e a = by_lengths e a
  by_limits false e a = absurd (let q : ◌≡◌ {A = ℕ} 2 0 = rw (bad_settings P M values truths buffer e) at a in omega arith)

  -- ---- a completion is found
  accepts : InOrder P M values truths buffer → 0 < length values → (t : List ℕ) → Completion P M values truths t → Accepted P M values truths buffer
  unfolding known_entries table_limits
  accepts o h t c =
      let limits : table_limits P M ≡ true =
      rw (le-leb 2 P o.period.0, le-leb P 16 o.period.1, le-leb P M o.longest.0, le-leb M (2 * P) o.longest.1) in
      let l : span values ≤ M = omega (arith, c.long, c.most) in
      let k = entered (least values) t values truths (replicate (span values) 2) o.lengths (within values)
      (unknown_completes (span values) t c.long c.bits) (record { at = c.agrees }) in
      let w = whole o.lengths k.0 k.1 in
      let s = some_table P k.0 (completion_found P k.0 t k.2 ((rotation_rule P t).decides.1 c.turns) w.0) in
      let fits : length s.0 ≤ length buffer = omega (arith, (completion_is k.0 w.0 P s.0 s.1).0.long, w.1, o.room l) in
      ap (λ (r : Built). r.answer.number) (replied limits o.lengths (omega arith) l k.0 k.1 s.0 s.1 fits)

-- A table answered is a completion of the rows, of at most M bits, that can be rotated and agrees with every row.
-- With settings, lengths and buffer in order, one is answered exactly when there is a row and there is such a completion.
pub record BuilderExact (P M : ℕ) (values : List ℤ) (truths buffer : List ℕ) : Type 0 where
  pub such : Accepted P M values truths buffer → (t : List ℕ) × Completion P M values truths t × Answers P M values truths buffer t
  pub exactly : InOrder P M values truths buffer
      → Accepted P M values truths buffer ↔ ((0 < length values) × (t : List ℕ) × Completion P M values truths t)

pub builder_exact : (P M : ℕ) (values : List ℤ) (truths buffer : List ℕ) → BuilderExact P M values truths buffer
builder_exact P M values truths buffer =
    record {
      such = λ a. (all a).1;
      exactly = λ o. (λ a. let r = all a in (r.0, r.1.0, r.1.1), λ w. accepts P M values truths buffer o w.0 w.1 w.2);
    }
  where
    all : Accepted P M values truths buffer → (0 < length values) × Found P M values truths buffer
    all = by_limits P M values truths buffer (table_limits P M) refl
