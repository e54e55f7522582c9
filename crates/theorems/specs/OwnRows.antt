-- A table that a rotation gives, handed to the builder as its own rows, comes back with its centre (document 02, S-10).
use Rattle.std.specs.Prelude.{◌≡◌, List, ℕ, ◌+◌, ◌*◌, ◌-◌, ◌<◌, ◌≤◌, T, ℤ, nat_abs, ◌-ℤ◌, length, get_or}
use Rattle.std.proofs.Common.{sym, ap, ap₂, subst, ◌∙◌, ext_get_or}
use native.Mathlib.Omega.{arith}
use Rattle.std.proofs.Math.IntN.{pos}
use Rattle.laws.specs.Integer.{ints, plus, minus, abs_parts, sub_parts, one_part_zero}
use Rattle.laws.specs.Tabulate.{tabulate, tabulate-at, tabulate-length}
use Rattle.rules.specs.Rotation.{Rotatable}
use Rattle.rules.specs.Runs.{all_bits}
use Rattle.rules.specs.Span.{least, greatest, span}
use Rattle.theorems.specs.Bits.{bit_at}
use Rattle.theorems.specs.BuilderExact.{InOrder, Completion, Answers, builder_exact}
use Rattle.theorems.specs.Spans.{least_le, le_greatest, least_bound, greatest_bound, span_is}

-- The values 0 to n - 1.
unfoldable pub values_to : ℕ → List ℤ
values_to n = tabulate n pos

from_zero : (i : ℕ) → nat_abs (pos i -ℤ pos 0) ≡ i
unfolding plus minus
from_zero i = omega (arith, abs_parts (pos i -ℤ pos 0), sub_parts (pos i) (pos 0), one_part_zero (pos i -ℤ pos 0))

module _ (n : ℕ) where
  values_length : length (values_to n) ≡ n
  unfolding values_to
  values_length = tabulate-length n pos

  value_at : (i : ℕ) → i < n → get_or (values_to n) i (pos 0) ≡ pos i
  unfolding values_to
  value_at i h = tabulate-at n pos i (pos 0) h

  module _ (h : 0 < n) where
    some : 0 < length (values_to n)
    some = omega (arith, values_length)

    least_zero : least (values_to n) ≡ pos 0
    unfolding plus minus
    least_zero =
        omega
        (arith, ints, least_le (values_to n) 0 some, value_at 0 h, least_bound (pos 0) (values_to n) some (λ i l. let e = value_at i (omega (arith, values_length)) in omega (arith, ints)))

    greatest-last : greatest (values_to n) ≡ pos (n - 1)
    unfolding plus minus
    greatest-last =
        omega (
          arith,
          ints,
          le_greatest (values_to n) (n - 1) (omega (arith, values_length)),
          value_at (n - 1) (omega arith),
          greatest_bound (pos (n - 1)) (values_to n) some (λ i l. let e = value_at i (omega (arith, values_length)) in omega (arith, ints, values_length)),
        )

    values-span : span (values_to n) ≡ n
    values-span = span_is (values_to n) some ∙ ap₂ (λ g l. nat_abs (g -ℤ l) + 1) greatest-last least_zero ∙ omega (arith, from_zero (n - 1))

-- row i has value i
module _ (n i : ℕ) (h : i < n) where
  offset_own : nat_abs (get_or (values_to n) i (pos 0) -ℤ least (values_to n)) ≡ i
  offset_own = ap₂ (λ v l. nat_abs (v -ℤ l)) (value_at n i h) (least_zero n (omega arith)) ∙ from_zero i

module _ (P M : ℕ) (t buffer : List ℕ) (period : (2 ≤ P) × (P ≤ 16)) (longest : (P ≤ M) × (M ≤ 2 * P)) (some_bit : 0 < length t) (most : length t ≤ M) (room : length t ≤ length buffer) where
  own_order : InOrder P M (values_to (length t)) t buffer
  own_order = record { period = period; longest = longest; lengths = values_length (length t); room = λ l. omega (arith, values-span (length t) some_bit) }

  own_completion : T (all_bits t) → Rotatable P t → Completion P M (values_to (length t)) t t
  own_completion b r =
      record {
        long = sym (values-span (length t) some_bit);
        most = most;
        bits = λ i h. bit_at t i b;
        turns = r;
        agrees = λ i h. ap (λ k. get_or t k 0) (offset_own (length t) i (omega (arith, values_length (length t))));
      }

  -- a completion of a table's own rows is the table
  own_only : (u : List ℕ) → Completion P M (values_to (length t)) t u → u ≡ t
  own_only u c = ext_get_or 0 u t (c.long ∙ values-span (length t) some_bit) at
    where
      at : (i : ℕ) → i < length u → get_or u i 0 ≡ get_or t i 0
      at i h =
          let l : i < length t = omega (arith, c.long, values-span (length t) some_bit) in
          ap (λ k. get_or u k 0) (sym (offset_own (length t) i l)) ∙ c.agrees i (omega (arith, values_length (length t)))

  pub own_rows : T (all_bits t) → Rotatable P t → Answers P M (values_to (length t)) t buffer t
  own_rows b r =
      let exact = builder_exact P M (values_to (length t)) t buffer in
      let f = exact.such ((exact.exactly own_order).1 (omega (arith, values_length (length t)), t, own_completion b r)) in
      subst (Answers P M (values_to (length t)) t buffer) (own_only f.0 f.1) f.2
