-- The pairs of each policy, and what is found among them.
use Rattle.std.specs.Prelude as P
use Rattle.std.specs.Prelude.{None, IfSome, ◌≡◌, refl, Bool, ℕ, zero, suc, ◌+◌, ◌*◌, ◌≤◌, ◌<◌, ◌^◌, eqb, ℤ, pos, neg_ℤ, ◌+ℤ◌, ◌-ℤ◌, length, take}
use Rattle.std.proofs.Math.Path.{sym, ap, ap₂, subst}
use Rattle.std.proofs.Common.{◌∙◌, lt-ltb, pow_pos}
use Rattle.std.proofs.Math.Bool.{true, false}
use mathlib.Core.List.{List, [], ◌∷◌, flat_map, append-nil}
use Rattle.std.proofs.Math.Option.{none}
use Rattle.std.proofs.Math.Nat.{mod-one}
use native.Mathlib.Omega.{arith}
use Rattle.std.proofs.Math.ListN.{length-map}
use Rattle.laws.specs.Gcd.{gcd, gcd_zero, gcd-step}
use Rattle.laws.specs.Integer.{plus, minus, ints, plus_neg, minus_neg, sub_parts, one_part_zero, abs_neg}
use Rattle.laws.specs.Test.{if◌then◌otherwise◌}
use Rattle.rules.specs.declared.Policy.{Policy}
use Rattle.rules.specs.declared.Policy.TheVariants.{Basic, Naive, Span}
use Rattle.rules.specs.declared.Settings.{Settings}
use Rattle.rules.specs.Cone.{Cone, Candidate, linear_table, values, cone_span, best_from, best, terms}
use Rattle.rules.specs.Composition.{Scales, scales, union_support, all_equal, scale_pairs, tried_pairs, merged_coefficients, evaluate, find_candidate}
use Rattle.rules.specs.Network.{LutNode}
use Rattle.rules.specs.Scale.{is_scale_pair}
use Rattle.rules.specs.Span.{span}
use Rattle.rules.specs.Store.{coefficient_of}
use Rattle.theorems.specs.ConeValues.{linear_table-length}
use Rattle.theorems.specs.Spans.{span_is}
use Rattle.compose.specs.declared.basis.Basis.{Basis}
use Rattle.compose.specs.Basis.{lefts, rights, lefts_span, rights_span, coefficients_over, IsBasis}
use Rattle.search.specs.declared.Ranges.{Ranges}
use Rattle.merged_rows.specs.declared.energy.Moments.{Moments}
use Rattle.scale_pair.specs.declared.score.Score.{Score}
use Rattle.merged_rows.specs.EnergyRows.{moments_of}
use Rattle.search.specs.Candidates.{candidate_of, Found}
use Rattle.search.specs.EqualForms.{first-best}
use Rattle.search.specs.Found.{walks_same}
use Rattle.search.specs.Pairs.{tried, tried_at, pairs_walked}
use Rattle.merged_rows.specs.RowsCompacted.{Compacted}
use Rattle.search.specs.Search.{context, cone_by, step_at, walk_all, InSpans}
use Rattle.search.specs.Walk.{walk_row, walk, count_to}

-- Of equal forms (0, 1) alone; Naive has the pair (right, 1) alone.
abbrev pub one_pair : ℤ → ℤ → Ranges
one_pair a b = record { a = record { start = a; end = a +ℤ pos 1 }; b = record { start = b; end = b +ℤ pos 1 } }

abbrev pub all_pairs : ℕ → ℕ → Ranges
all_pairs left right = record { a = record { start = pos 0; end = pos right +ℤ pos 1 }; b = record { start = neg_ℤ (pos left); end = pos left +ℤ pos 1 } }

abbrev pub ranges_of : Bool → Policy → ℕ → ℕ → Ranges
ranges_of same Naive left right = one_pair (pos right) (pos 1)
ranges_of true Basic left right = one_pair (pos 0) (pos 1)
ranges_of true Span left right = one_pair (pos 0) (pos 1)
ranges_of false Basic left right = all_pairs left right
ranges_of false Span left right = all_pairs left right

one_pair_in : (a : ℕ) → a ≤ 32 → InSpans (one_pair (pos a) (pos 1))
one_pair_in a h = record { a_start = h; a_end = omega arith; b_start = omega arith; b_end = omega arith }

all_pairs_in : (left right : ℕ) → left ≤ 32 → right ≤ 32 → InSpans (all_pairs left right)
all_pairs_in left right h k = record { a_start = omega arith; a_end = omega arith; b_start = omega (arith, abs_neg (pos left)); b_end = omega arith }

pub ranges_in : (same : Bool) (policy : Policy) (left right : ℕ) → left ≤ 32 → right ≤ 32 → InSpans (ranges_of same policy left right)
ranges_in same Naive left right h k = one_pair_in right k
ranges_in true Basic left right h k = one_pair_in 0 (omega arith)
ranges_in true Span left right h k = one_pair_in 0 (omega arith)
ranges_in false Basic left right h k = all_pairs_in left right h k
ranges_in false Span left right h k = all_pairs_in left right h k

-- ---- the definition's pairs are those of the ranges
gcd-one : (n : ℕ) → gcd n 1 ≡ 1
gcd-one n = gcd-step n 1 (omega arith) ∙ ap (gcd 1) (mod-one n) ∙ gcd_zero 1

naive_pair : (n : ℕ) → is_scale_pair (pos n) (pos 1) ≡ true
unfolding is_scale_pair
naive_pair zero = ap (λ g. eqb g 1) (gcd-one 0)
naive_pair (suc n) = rw (lt-ltb 0 (suc n) (omega arith), gcd-one (suc n))

module _ (E : Scales → List Candidate) where
  naive_walked : (right : ℕ) → best (flat_map E (scales (pos right) (pos 1) ∷ [])) ≡ walk (tried_at E) (pos 1) 1 (pos right) 1 none
  unfolding best flat_map walk walk_row tried_at tried scales
  naive_walked right =
      ap (best_from none) (append-nil (E (scales (pos right) (pos 1))))
      ∙ sym (ap (λ t. if t then best_from none (E (scales (pos right) (pos 1))) otherwise none) (naive_pair right))

  one_to : (a : ℕ) → 1 ≡ count_to (pos a) (pos a +ℤ pos 1)
  unfolding count_to plus minus
  one_to a = omega (arith, ints, sub_parts (pos a +ℤ pos 1) (pos a), one_part_zero ((pos a +ℤ pos 1) -ℤ pos a))

  many_to : (right : ℕ) → right + 1 ≡ count_to (pos 0) (pos right +ℤ pos 1)
  unfolding count_to plus minus
  many_to right = omega (arith, ints, sub_parts (pos right +ℤ pos 1) (pos 0), one_part_zero ((pos right +ℤ pos 1) -ℤ pos 0))

  both_to : (left : ℕ) → 2 * left + 1 ≡ count_to (neg_ℤ (pos left)) (pos left +ℤ pos 1)
  unfolding count_to plus minus
  both_to left = omega (arith, ints, plus_neg (pos left), minus_neg (pos left), sub_parts (pos left +ℤ pos 1) (neg_ℤ (pos left)), one_part_zero ((pos left +ℤ pos 1) -ℤ neg_ℤ (pos left)))

  pub one_walked : (a : ℕ) → walk (tried_at E) (pos 1) 1 (pos a) 1 none ≡ walk_all (tried_at E) (one_pair (pos a) (pos 1)) none
  one_walked a = ap₂ (λ n k. walk (tried_at E) (pos 1) n (pos a) k none) (one_to 1) (one_to a)

  policy_walked : (policy : Policy) (left right : ℕ) → best (flat_map E (tried_pairs policy left right)) ≡ walk_all (tried_at E) (ranges_of false policy left right) none
  unfolding tried_pairs
  policy_walked policy left right = by policy
    where
      all : best (flat_map E (scale_pairs left right)) ≡ walk_all (tried_at E) (all_pairs left right) none
      all = pairs_walked E left right ∙ ap₂ (λ n k. walk (tried_at E) (neg_ℤ (pos left)) n (pos 0) k none) (both_to left) (many_to right)

      by : (p : Policy) → best (flat_map E (tried_pairs p left right)) ≡ walk_all (tried_at E) (ranges_of false p left right) none
      by Basic = all
      by Naive = naive_walked right ∙ one_walked right
      by Span = all

-- ---- the search over the ranges of a policy
-- An attempt to merge two cones: their coefficients laid over both sources, the rows that stand for all rows of the gate, and their moments.
pub record Attempted (left right : Cone) (truth : List ℕ) (counts : List ℕ) (basis : Basis) (xs ys : List ℤ) (ts : List ℕ) (m : Moments) : Type 0 where
  pub over : IsBasis left right basis
  pub left-span : span (linear_table (lefts basis)) ≡ cone_span left
  pub right-span : span (linear_table (rights basis)) ≡ cone_span right
  pub stands : Compacted (linear_table (coefficients_over (union_support left.support right.support) left))
      (linear_table (coefficients_over (union_support left.support right.support) right)) truth xs ys ts counts
  pub rows : length truth ≡ length (linear_table (coefficients_over (union_support left.support right.support) left))
  pub moments : m ≡ moments_of xs ys counts
  pub mixed : all_equal truth ≡ false

-- What is found.
pub record Finds (s : Settings) (nodes : List LutNode) (left right : Cone) (truth : List ℕ) (r : P.Option Score) : Type 0 where
  pub candidate : candidate_of (union_support left.support right.support) left right truth r
      ≡ find_candidate s nodes (union_support left.support right.support) left right truth
  pub found : IfSome r (Found s (union_support left.support right.support) left right truth)

module _ (s : Settings) (nodes : List LutNode) (left right : Cone) (truth counts : List ℕ) (basis : Basis) (first second : ℕ) (xs ys : List ℤ) (ts : List ℕ) (m : Moments)
    (h : Attempted left right truth counts basis xs ys ts m) (narrow : s.m ≤ 32) (first_is : first ≡ span (linear_table (lefts basis))) (second_is : second ≡ span (linear_table (rights basis))) where
  few_left : first ≤ 32
  few_left = rw first_is (lefts_span basis)

  few_right : second ≤ 32
  few_right = rw second_is (rights_span basis)

  abbrev U : List ℕ
  U = union_support left.support right.support

  even : length (coefficients_over U right) ≡ length (coefficients_over U left)
  unfolding coefficients_over
  even = simp length-map

  abbrev evaluated : Scales → List Candidate
  evaluated p = evaluate s nodes p (cone_by U (merged_coefficients U left right p) truth)

  many : length truth ≡ 2 ^ length U
  unfolding coefficients_over
  many = h.rows ∙ linear_table-length (coefficients_over U left) ∙ ap (λ n. 2 ^ n) (length-map U (coefficient_of (terms left)))

  wide : 0 < cone_span left
  unfolding cone_span values
  wide = omega (arith, span_is (linear_table left.coefficients) (rw (linear_table-length left.coefficients) (pow_pos (length left.coefficients))))

  -- (0, 1) stands for all pairs of equal forms
  first_pair : coefficients_over U left ≡ coefficients_over U right
      → best (flat_map evaluated (scale_pairs (cone_span left) (cone_span right))) ≡ walk_all (tried_at evaluated) (one_pair (pos 0) (pos 1)) none
  first_pair f = first-best s nodes U left right truth f many h.mixed (cone_span left) (cone_span right) wide ∙ one_walked evaluated 0

  -- the definition's pairs
  pairs_for : (same : Bool) (policy : Policy) → (same ≡ true → coefficients_over U left ≡ coefficients_over U right)
      → best (flat_map evaluated (tried_pairs policy (cone_span left) (cone_span right))) ≡ walk_all (tried_at evaluated) (ranges_of same policy (cone_span left) (cone_span right)) none
  unfolding tried_pairs
  pairs_for false policy f = policy_walked evaluated policy (cone_span left) (cone_span right)
  pairs_for true Naive f = policy_walked evaluated Naive (cone_span left) (cone_span right)
  pairs_for true Basic f = first_pair (f refl)
  pairs_for true Span f = first_pair (f refl)

  pub finds : (same : Bool) (r : Ranges) (t : P.Option Score) → (same ≡ true → coefficients_over U left ≡ coefficients_over U right) → r ≡ ranges_of same s.policy first second
      → t ≡ walk_all (step_at (context s nodes U (coefficients_over U left) (coefficients_over U right) m) xs ys ts) r None
      → Finds s nodes left right truth t
  unfolding find_candidate cone_by
  finds same r t q e f =
      let w = walks_same s nodes U left right truth xs ys ts counts m h.stands even h.rows h.moments narrow r (subst InSpans (sym e) (ranges_in same s.policy first second few_left few_right)) in
      record {
        candidate = ap (candidate_of U left right truth) f
            ∙ w.0
            ∙ ap (λ r. walk_all (tried_at evaluated) r none) (e ∙ ap₂ (ranges_of same s.policy) (first_is ∙ h.left-span) (second_is ∙ h.right-span))
            ∙ sym (pairs_for same s.policy q);
        found = subst (λ (t : P.Option Score). IfSome t (Found s U left right truth)) (sym f) w.1;
      }

  -- the same over the arrays of the basis
  pub finds_over : (same : Bool) (r : Ranges) (t : P.Option Score) → (same ≡ true → lefts basis ≡ rights basis) → r ≡ ranges_of same s.policy first second
      → t ≡ walk_all (step_at (context s nodes (take basis.n basis.support) (lefts basis) (rights basis) m) xs ys ts) r None
      → Finds s nodes left right truth t
  finds_over same r t q e g =
      let b = h.over in
      let both : context s nodes (take basis.n basis.support) (lefts basis) (rights basis) m
      ≡ context s nodes U (coefficients_over U left) (coefficients_over U right) m =
      ap (λ l. context s nodes l (lefts basis) (rights basis) m) b.sources
      ∙ ap₂ (λ x y. context s nodes U x y m) b.left_is b.right_is in
      finds same r t (λ z. sym b.left_is ∙ q z ∙ b.right_is) e
      (g ∙ ap (λ k. walk_all (step_at k xs ys ts) r None) both)
