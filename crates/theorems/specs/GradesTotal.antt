-- The values' counts of a `lin` stand for the values from the least sum to the greatest, in turn, and add up to 2 to the number of terms (document 02, S-12).
use Rattle.std.specs.Prelude.{◌≡◌, cond, List, ℕ, ◌+◌, ◌<◌, ◌^◌, eqb, ℤ, pos, nat_abs, ◌+ℤ◌, ◌-ℤ◌, ◌≤ℤ◌, length, get_or, sum, count_by}
use Rattle.std.proofs.Common.{ap, ◌∙◌, arith}
use Rattle.laws.specs.Integer.{plus, minus, add_parts, eq_z, offset_is, ints}
use Rattle.laws.specs.Sums.{sum_single, counts_sum}
use Rattle.laws.specs.Tabulate.{tabulate, tabulate-length, tabulate-at, tabulate_same}
use Rattle.rules.specs.Composition.{assignments}
use Rattle.rules.specs.Grades.{times_given, sum_span, value_counts_of}
use Rattle.rules.specs.Network.{Term, least_sum, greatest_sum}
use Rattle.rules.specs.SumReading.{sum_of_bits}
use Rattle.theorems.specs.Assignments.{assignments_bits}
use Rattle.theorems.specs.ConeRows.{assignments-length}
use Rattle.theorems.specs.LinearTables.{total}
use Rattle.theorems.specs.Spans.{offset_within}
use Rattle.theorems.specs.SumBounds.{sum_within, sums_apart, span_total}
use Rattle.theorems.specs.Terms.{coefs}

-- ---- The statement.

pub record CountsTotal (c : ℤ) (ts : List Term) : Type 0 where
  -- from the least sum to the greatest
  pub long : least_sum c ts +ℤ pos (length (value_counts_of c ts)) ≡ greatest_sum c ts +ℤ pos 1
  pub at : (i : ℕ) → i < length (value_counts_of c ts)
      → get_or (value_counts_of c ts) i 0 ≡ count_by (λ bits. eq_z (sum_of_bits c ts bits) (least_sum c ts +ℤ pos i)) (assignments (length ts))
  pub all : sum (value_counts_of c ts) ≡ 2 ^ length ts

-- ---- A value between two bounds.

one_offset : (low high v : ℤ) → low ≤ℤ v → v ≤ℤ high → sum (tabulate (nat_abs (high -ℤ low) + 1) (λ i. cond (eq_z v (low +ℤ pos i)) 1 0)) ≡ 1
one_offset low high v h k =
    ap sum (tabulate_same (nat_abs (high -ℤ low) + 1) _ (λ i. cond (eqb (nat_abs (v -ℤ low)) i) 1 0) (λ i l. ap {B = ℕ} (λ b. cond b 1 0) (offset_is low v h i)))
    ∙ sum_single (nat_abs (high -ℤ low) + 1) (nat_abs (v -ℤ low)) (omega (arith, offset_within v low high h k))

-- ---- The theorem.

pub counts_total : (c : ℤ) (ts : List Term) → CountsTotal c ts
unfolding value_counts_of times_given sum_span plus minus
counts_total c ts =
    record {
      long = rw (tabulate-length, span_total c ts, sums_apart c ts)
          (omega (arith, ints, add_parts (least_sum c ts) (pos (total (coefs ts) + 1)), add_parts (least_sum c ts) (pos (total (coefs ts))), add_parts (least_sum c ts +ℤ pos (total (coefs ts))) (pos 1)));
      at = λ i h. tabulate-at (sum_span c ts) _ i 0 (rw tabulate-length at h);
      all = counts_sum (sum_span c ts) (λ i bits. eq_z (sum_of_bits c ts bits) (least_sum c ts +ℤ pos i)) (assignments (length ts))
          (λ k d l. let s = sum_within c ts _ (assignments_bits (length ts) k d l) in one_offset (least_sum c ts) (greatest_sum c ts) _ s.0 s.1)
          ∙ assignments-length (length ts);
    }
