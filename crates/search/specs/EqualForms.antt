-- Two cones that have the same coefficients over their sources: all scale pairs give the same sum, or 0 at every row, so the first of them, (0, 1), is the best.
use Rattle.std.specs.Prelude.{◌≡◌, Bool, true, false, ◌&&◌, ◌||◌, eqb, ltb, ℤ, negsuc, neg_ℤ, ◌+ℤ◌, ◌*ℤ◌, ◌≤ℤ◌, ◌<ℤ◌, ◌⊎◌, length}
use Rattle.std.proofs.Math.Path.{refl, sym, ap}
use Rattle.std.proofs.Common.{ap₂, subst, ◌∙◌, true≢false, arith, add-one}
use Rattle.std.proofs.lemmas.Bool.{false≢true}
use mathlib.Core.List.{List, [], ◌∷◌, zip_with, flat_map}
use Rattle.std.proofs.Math.Logic.{inl, inr, ⊎_elim}
use Rattle.std.proofs.Math.Option.{Option, none, some}
use Prim.Native.Nat.{ℕ, zero, suc, ◌+◌, ◌*◌, ◌<◌, ◌^◌}
use borrow.Author.Tests.{le-ltb}
use Rattle.std.proofs.Math.IntN.{pos, nat_abs, *ℤ_comm, *ℤ-zero, zero-*ℤ}
use Rattle.std.proofs.Math.ListN.{get_or, length-map}
use Rattle.std.specs.Int.Signed.{lt_z}
use Rattle.laws.specs.Gcd.{gcd, gcd_within}
use Rattle.laws.specs.Integer.{ints, plus, minus, add_parts, plus_neg, minus_neg, false_lt_z}
use Rattle.laws.specs.Test.{if◌then◌otherwise◌, eq-or-ne, decide, positive_of}
use Rattle.rules.specs.declared.Settings.{Settings}
use Rattle.rules.specs.Cone.{Cone, Candidate, linear_table, values, fits, less, better, best_from, best, terms}
use Rattle.rules.specs.Composition.{Scales, scales, all_equal, scale_pairs, merged_coefficients, score, evaluate}
use Rattle.rules.specs.Network.{LutNode}
use Rattle.rules.specs.Store.{coefficient_of}
use Rattle.rules.specs.Scale.{divisor, quotients, normalised, is_scale_pair}
use Rattle.theorems.specs.ConeValues.{linear_table-length}
use Rattle.theorems.specs.Normalised.{normalised-length}
use Rattle.theorems.specs.Truths.{all_equal_true}
use Rattle.theorems.specs.FittingCones.{fits_consistent}
use Rattle.scale.specs.Divisor.{divisor_not_zero}
use Rattle.compose.specs.Basis.{coefficients_over}
use Rattle.merged_rows.specs.MergedIntegers.{add-mul, quot_of}
use Rattle.merged_rows.specs.MergedValues.{combined, times, table_times, table_divided, merged-coefficients}
use Rattle.search.specs.Pairs.{tried, tried_at, pairs_walked}
use Rattle.scale_pair.specs.Score.{less_same, less_differ_number}
use Rattle.search.specs.Search.{cone_by}
use Rattle.search.specs.Walk.{walk_row, walk}
use Rattle.scale_pair.specs.Factor.{normalised_same}

-- ---- the merged coefficients of one row with itself
combined-times : (a b : ℤ) (l : List ℤ) → zip_with (combined a b) l l ≡ times (a +ℤ b) l
unfolding combined times zip_with
combined-times a b [] = refl
combined-times a b (x ∷ l) = ap₂ {C = List ℤ} (λ v r. v ∷ r) (sym (add-mul x a b) ∙ *ℤ_comm (a +ℤ b) x) (combined-times a b l)

-- ---- 0 at every row: no table where the truth is not constant
zero_entry : (d : ℤ) → 0 < nat_abs d → (t : List ℤ) (i : ℕ) → get_or (quotients d (times (pos 0) t)) i (pos 0) ≡ pos 0
unfolding quotients times
zero_entry d h [] i = refl
zero_entry d h (x ∷ t) zero = quot_of (pos 0) d (x *ℤ pos 0) h (zero-*ℤ d ∙ sym (*ℤ-zero x))
zero_entry d h (x ∷ t) (suc i) = zero_entry d h t i

zero_value : (cs : List ℤ) (i : ℕ) → get_or (linear_table (normalised (times (pos 0) cs))) i (pos 0) ≡ pos 0
zero_value cs i =
    ap (λ l. get_or l i (pos 0)) (table_divided (times (pos 0) cs) ∙ ap (quotients (divisor (times (pos 0) cs))) (table_times (pos 0) cs))
    ∙ zero_entry (divisor (times (pos 0) cs)) (divisor_not_zero (times (pos 0) cs)) (linear_table cs) i

no_table : (s : Settings) (nodes : List LutNode) (U : List ℕ) (cs : List ℤ) (truth : List ℕ) → length cs ≡ length U → length truth ≡ 2 ^ length U → all_equal truth ≡ false
    → fits s nodes (cone_by U (normalised (times (pos 0) cs)) truth) ≡ false
unfolding cone_by values times
no_table s nodes U cs truth e long mixed =
    ⊎_elim
    (λ (f : fits s nodes (cone_by U (normalised (times (pos 0) cs)) truth) ≡ true). absurd (true≢false (sym (all_equal_true truth (λ i h. agree f i 0 h (omega arith))) ∙ mixed)))
    (λ (f : fits s nodes (cone_by U (normalised (times (pos 0) cs)) truth) ≡ false). f)
    (decide (fits s nodes (cone_by U (normalised (times (pos 0) cs)) truth)))
  where
    wide : length (normalised (times (pos 0) cs)) ≡ length U
    wide = normalised-length (times (pos 0) cs) ∙ length-map cs (λ (x : ℤ). x *ℤ pos 0) ∙ e

    many : length (linear_table (normalised (times (pos 0) cs))) ≡ length truth
    many = linear_table-length (normalised (times (pos 0) cs)) ∙ ap (λ n. 2 ^ n) wide ∙ sym long

    agree : fits s nodes (cone_by U (normalised (times (pos 0) cs)) truth) ≡ true → (i j : ℕ) → i < length truth → j < length truth → get_or truth i 0 ≡ get_or truth j 0
    agree f i j h l =
        (fits_consistent s nodes (cone_by U (normalised (times (pos 0) cs)) truth) wide long f).same i j (subst (λ n. i < n) (sym many) h) (subst (λ n. j < n) (sym many) l)
        (zero_value cs i ∙ sym (zero_value cs j))

-- ---- (0, 1) is not above any scale pair
not-before : (u : ℕ) (b : ℤ) → is_scale_pair (pos u) b ≡ true → less (pos u ∷ b ∷ []) (pos 0 ∷ pos 1 ∷ []) ≡ false
unfolding is_scale_pair less
not-before zero (pos zero) e = absurd (false≢true e)
not-before zero (pos (suc n)) e = by (ltb (suc n) 1) (ltb 1 (suc n)) (le-ltb (suc n) 1 (omega arith))
  where
    by : (t u : Bool) → t ≡ false → (if t then true otherwise if u then false otherwise false) ≡ false
    by true u f = f
    by false true f = refl
    by false false f = refl
not-before zero (negsuc n) e = absurd (false≢true e)
not-before (suc u) b e = sym (less_differ_number (suc u) 0 (b ∷ []) (pos 1 ∷ []) (λ z. omega arith)) ∙ le-ltb (suc u) 0 (omega arith)

same_first : (x : ℤ) (xs ys : List ℤ) → less xs ys ≡ false → less (x ∷ xs) (x ∷ ys) ≡ false
same_first x xs ys e = sym (less_same x x xs ys refl) ∙ e

not_pair : (b : ℤ) → lt_z (pos 0) b ≡ false → is_scale_pair (pos 0) b ≡ false
unfolding is_scale_pair
not_pair b e = ap (λ t. (lt_z (pos 0) (pos 0) || (eqb 0 0 && t)) && eqb (gcd 0 (nat_abs b)) 1) e

first_pair : is_scale_pair (pos 0) (pos 1) ≡ true
unfolding is_scale_pair gcd gcd_within
first_pair = refl

one_or_less : (b : ℤ) → b ≤ℤ pos 1 → (b ≡ pos 1) ⊎ (b ≤ℤ pos 0)
unfolding plus minus
one_or_less b h = ⊎_elim (λ (e : lt_z (pos 0) b ≡ true). inl (omega (arith, ints))) (λ (e : lt_z (pos 0) b ≡ false). inr (omega (arith, ints))) (decide (lt_z (pos 0) b))

keeps_first : (t : Bool) (x y : Candidate) → less y.score x.score ≡ false
    → best_from (best_from none (if t then x ∷ [] otherwise [])) (if t then y ∷ [] otherwise []) ≡ best_from none (if t then x ∷ [] otherwise [])
unfolding best_from better
keeps_first true x y e = ap (λ t. some (if t then y otherwise x)) e
keeps_first false x y e = refl

zero_abs : (z : ℤ) → nat_abs z ≡ 0 → z ≡ pos 0
zero_abs (pos zero) e = refl
zero_abs (pos (suc n)) e = absurd (omega arith)
zero_abs (negsuc n) e = absurd (omega arith)

module _ (s : Settings) (nodes : List LutNode) (U : List ℕ) (left right : Cone) (truth : List ℕ) (same : coefficients_over U left ≡ coefficients_over U right)
    (rows : length truth ≡ 2 ^ length U) (mixed : all_equal truth ≡ false) where
  abbrev E : Scales → List Candidate
  E p = evaluate s nodes p (cone_by U (merged_coefficients U left right p) truth)

  abbrev l : List ℤ
  l = coefficients_over U left

  -- the cone of every pair, but for those that add up to 0
  abbrev common : Cone
  common = cone_by U (normalised l) truth

  merged_same : (p : Scales) → merged_coefficients U left right p ≡ normalised (times (p.a +ℤ p.b) l)
  merged_same p =
      merged-coefficients U left right p
      ∙ ap normalised (ap (zip_with (combined p.a p.b) l) (sym same) ∙ combined-times p.a p.b l)

  wide : length l ≡ length U
  unfolding coefficients_over
  wide = length-map U (coefficient_of (terms left))

  evaluate-no : (p : Scales) (c : Cone) → fits s nodes c ≡ false → evaluate s nodes p c ≡ []
  unfolding evaluate
  evaluate-no p c e = ap {B = List Candidate} (λ t. if t then record { score = score s nodes p c; cone = c } ∷ [] otherwise []) e

  none_of : (p : Scales) → nat_abs (p.a +ℤ p.b) ≡ 0 → E p ≡ []
  none_of p e =
      ap (λ cs. evaluate s nodes p (cone_by U cs truth)) (merged_same p ∙ ap (λ k. normalised (times k l)) (zero_abs (p.a +ℤ p.b) e))
      ∙ evaluate-no p (cone_by U (normalised (times (pos 0) l)) truth) (no_table s nodes U l truth wide rows mixed)

  common_of : (p : Scales) → 0 < nat_abs (p.a +ℤ p.b) → E p ≡ evaluate s nodes p common
  common_of p h = ap (λ cs. evaluate s nodes p (cone_by U cs truth)) (merged_same p ∙ normalised_same (p.a +ℤ p.b) l h)

  abbrev first : Scales
  first = scales (pos 0) (pos 1)

  abbrev found : Option Candidate
  found = tried E none first

  found_is : found ≡ best_from none (evaluate s nodes first common)
  unfolding tried scales
  found_is = ap (λ t. if t then best_from none (E first) otherwise none) first_pair ∙ ap (best_from none) (common_of first (omega arith))

  not-less : (u : ℕ) (b : ℤ) → is_scale_pair (pos u) b ≡ true → less (score s nodes (scales (pos u) b) common) (score s nodes first common) ≡ false
  unfolding score scales
  not-less u b e = same_first _ _ _ (same_first _ _ _ (same_first _ _ _ (same_first _ _ _ (not-before u b e))))

  kept_common : (u : ℕ) (b : ℤ) → is_scale_pair (pos u) b ≡ true → best_from found (evaluate s nodes (scales (pos u) b) common) ≡ found
  unfolding evaluate
  kept_common u b e =
      ap (λ d. best_from d (evaluate s nodes (scales (pos u) b) common)) found_is
      ∙ keeps_first (fits s nodes common) (record { score = score s nodes first common; cone = common }) (record { score = score s nodes (scales (pos u) b) common; cone = common }) (not-less u b e)
      ∙ sym found_is

  tried_keeps : (u : ℕ) (b : ℤ) → tried E found (scales (pos u) b) ≡ found
  unfolding tried
  tried_keeps u b =
      ⊎_elim
      (λ (e : is_scale_pair (scales (pos u) b).a (scales (pos u) b).b ≡ true).
      ap (λ t. if t then best_from found (E (scales (pos u) b)) otherwise found) e
      ∙ ⊎_elim
      (λ (z : nat_abs ((scales (pos u) b).a +ℤ (scales (pos u) b).b) ≡ 0). ap (best_from found) (none_of (scales (pos u) b) z) ∙ nothing found)
      (λ (z : nat_abs ((scales (pos u) b).a +ℤ (scales (pos u) b).b) ≡ 0 → ⊥).
      ap (best_from found) (common_of (scales (pos u) b) (positive_of (nat_abs ((scales (pos u) b).a +ℤ (scales (pos u) b).b)) z)) ∙ kept_common u b (unfold scales in e))
      (eq-or-ne (nat_abs ((scales (pos u) b).a +ℤ (scales (pos u) b).b)) 0))
      (λ (e : is_scale_pair (scales (pos u) b).a (scales (pos u) b).b ≡ false). ap (λ t. if t then best_from found (E (scales (pos u) b)) otherwise found) e)
      (decide (is_scale_pair (scales (pos u) b).a (scales (pos u) b).b))
    where
      nothing : (d : Option Candidate) → best_from d [] ≡ d
      nothing d = unfold best_from in refl

  -- ---- once it is found it stays
  row_keeps : (u : ℕ) (b : ℤ) (n : ℕ) → walk_row (tried_at E) (pos u) b n found ≡ found
  unfolding walk_row tried_at
  row_keeps u b zero = refl
  row_keeps u b (suc n) = ap (walk_row (tried_at E) (pos u) (b +ℤ pos 1) n) (tried_keeps u b) ∙ row_keeps u (b +ℤ pos 1) n

  walk_keeps : (b : ℤ) (n u k : ℕ) → walk (tried_at E) b n (pos u) k found ≡ found
  unfolding walk
  walk_keeps b n u zero = refl
  walk_keeps b n u (suc k) = ap (walk (tried_at E) b n (pos (u + 1)) k) (row_keeps u b n) ∙ walk_keeps b n (u + 1) k

  before : (b : ℤ) → b ≤ℤ pos 0 → tried_at E (pos 0) b none ≡ none
  unfolding tried_at tried scales plus minus
  before b h =
      ap (λ t. if t then best_from none (E (scales (pos 0) b)) otherwise none)
      (not_pair b (false_lt_z (pos 0) b (omega (arith, ints))))

  at_one : (b : ℤ) → b ≡ pos 1 → tried_at E (pos 0) b none ≡ found
  unfolding tried_at
  at_one b e = ap (λ b. tried E none (scales (pos 0) b)) e

  first_row : (b : ℤ) (n : ℕ) → b ≤ℤ pos 1 → pos 1 <ℤ (b +ℤ pos n) → walk_row (tried_at E) (pos 0) b n none ≡ found
  unfolding walk_row plus minus
  first_row b zero h k = absurd (omega (arith, ints, add_parts b (pos 0)))
  first_row b (suc n) h k =
      ⊎_elim
      (λ (e : b ≡ pos 1). ap (walk_row (tried_at E) (pos 0) (b +ℤ pos 1) n) (at_one b e) ∙ row_keeps 0 (b +ℤ pos 1) n)
      (λ (e : b ≤ℤ pos 0).
      ap (walk_row (tried_at E) (pos 0) (b +ℤ pos 1) n) (before b e)
      ∙ first_row (b +ℤ pos 1) n (omega (arith, ints, add_parts b (pos 1))) (omega (arith, ints, add_parts b (pos 1), add_parts b (pos (suc n)), add_parts (b +ℤ pos 1) (pos n))))
      (one_or_less b h)

  -- Of all pairs the first is the best.
  pub first-best : (left-span right-span : ℕ) → 0 < left-span → best (flat_map E (scale_pairs left-span right-span)) ≡ walk (tried_at E) (pos 1) 1 (pos 0) 1 none
  unfolding walk walk_row tried_at plus minus
  first-best L R h =
      let low = neg_ℤ (pos L) in
      pairs_walked E L R
      ∙ ap (λ k. walk (tried_at E) low (2 * L + 1) (pos 0) k none) (add-one R)
      ∙ ap (walk (tried_at E) low (2 * L + 1) (pos 1) R)
      (first_row low (2 * L + 1) (omega (arith, ints, plus_neg (pos L), minus_neg (pos L))) (omega (arith, ints, plus_neg (pos L), minus_neg (pos L), add_parts low (pos (2 * L + 1)))))
      ∙ walk_keeps low (2 * L + 1) 1 R
