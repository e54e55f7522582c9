-- What the search finds is what `find_candidate` finds.
use Rattle.std.specs.Prelude as P
use Rattle.std.specs.Prelude.{Some, None, IfSome, ◌≡◌, Bool, ◌&&◌, ℕ, suc, ◌+◌, ◌-◌, ◌≤◌, ◌<◌, leb, ℤ, nat_abs, ◌-ℤ◌, ◌*ℤ◌, length, get_or, set, take, replicate}
use Rattle.std.proofs.Math.Path.{refl, sym, ap, ap₂, subst}
use Rattle.std.proofs.Common.{◌∙◌, true≢false, arith, leb-true, length-set, take_at}
use Rattle.std.proofs.Math.Bool.{true, false}
use mathlib.Core.List.{List, [], ◌∷◌, ◌++◌, zip_with}
use Rattle.std.proofs.Math.Logic.{⊎_elim}
use Rattle.std.proofs.Math.Option.{Option, none, some, map}
use Rattle.std.proofs.Math.IntN.{pos}
use Rattle.std.specs.Int.Signed.{quot_z}
use Rattle.std.proofs.lemmas.List.{length-replicate, replicate-append-replicate, set-append_left, take-map}
use Rattle.std.proofs.Math.ListN.{get_or-append}
use Rattle.laws.specs.Test.{if◌then◌otherwise◌, is_some, decide, both_left}
use Rattle.rules.specs.declared.Settings.{Settings}
use Rattle.rules.specs.Builder.{agrees, enter, known_entries, completable, entry_of}
use Rattle.rules.specs.Cone.{Cone, Candidate, linear_table, values, cone_span, norm2, energy, completed, encoding, is_lut_valid, within_norm, fits, better, best_from, best, terms}
use Rattle.rules.specs.Composition.{Scales, scales, merged_coefficients, reuse_cost, score, evaluate}
use Rattle.rules.specs.Network.{LutNode}
use Rattle.rules.specs.Scale.{divisor, normalised, is_scale_pair}
use Rattle.rules.specs.Span.{least, span}
use Rattle.rules.specs.Store.{linear_of}
use Rattle.theorems.specs.Rows.{Within, entered_entries, unknown_entries}
use Rattle.theorems.specs.Spans.{offset_lt}
use Rattle.theorems.specs.Weights.{weights_of, weighted_norm}
use Rattle.theorems.proofs.Weights.{norm2_weighted}
use Rattle.rotation.specs.Entries.{numbers, numbers_back}
use Rattle.compose.specs.Basis.{coefficients_over}
use Rattle.theorems.specs.ConeValues.{linear_table-length}
use Rattle.search.specs.declared.Ranges.{Ranges}
use Rattle.merged_rows.specs.declared.energy.Moments.{Moments}
use Rattle.scale_pair.specs.declared.pair.Pair.{Pair}
use Rattle.scale_pair.specs.declared.score.Score.{Score}
use Rattle.merged_rows.specs.EnergyMoments.{by_moments}
use Rattle.merged_rows.proofs.EnergyMoments.{energy_by_moments}
use Rattle.merged_rows.specs.EnergyRows.{moments_of, moments_compacted}
use Rattle.merged_rows.specs.MergedValues.{merged_value, merged-values, merged-coefficients}
use Rattle.scale_pair.specs.Pair.{Scaling, merged_row, merged, measures, weighed, measured, pair_of}
use Rattle.search.specs.Pairs.{tried, tried_at}
use Rattle.merged_rows.specs.RowsCompacted.{Compacted, known_compacted}
use Rattle.scale_pair.specs.Score.{rank_list, score_list, better_score}
use Rattle.search.specs.Search.{Context, context, row_values, entered_from, energy_by, cone_by, reuse_of, score_of, considered, step_of, step_at, walk_all, scaling_of, InSpans}
use Rattle.search.specs.Walk.{walks_keep}
use Rattle.search.specs.Candidates.{merged_cone, candidate_of, Found, one, better_candidate, found_better}

-- ---- entries behind those of the rows are kept
enter_longer : (low : ℤ) (vs : List ℤ) (T known rest : List ℕ) → Within low vs (length known)
    → enter low vs T (known ++ rest) ≡ map (λ k. k ++ rest) (enter low vs T known)
unfolding enter
enter_longer low [] T known rest w = refl
enter_longer low (v ∷ vs) [] known rest w = refl
enter_longer low (v ∷ vs) (t ∷ T) known rest w =
    let i = nat_abs (v -ℤ low) in
    let h : i < length known = w.at 0 (omega arith) in
    let r = enter_longer low vs T (set known i t) rest (record { at = λ j l. rw length-set (w.at (suc j) (omega arith)) }) in
    rw (get_or-append known rest 0 i h, set-append_left known rest i t h)
    (⊎_elim (λ (e : agrees (get_or known i 0) t ≡ true). rw e r) (λ (e : agrees (get_or known i 0) t ≡ false). rw e) (decide (agrees (get_or known i 0) t)))

-- 32 entries of which the first n are looked at
module _ (low : ℤ) (vs : List ℤ) (T : List ℕ) (n : ℕ) (h : n ≤ 32) (w : Within low vs n) where
  abbrev rest : List ℕ
  rest = replicate (32 - n) 2

  unknown_split : replicate 32 2 ≡ replicate n 2 ++ rest
  unknown_split = let e : 32 ≡ n + (32 - n) = omega arith in ap (λ k. replicate k 2) e ∙ sym (replicate-append-replicate n (32 - n) 2)

  enter-all : enter low vs T (replicate 32 2) ≡ map (λ k. k ++ rest) (enter low vs T (replicate n 2))
  enter-all = ap (enter low vs T) unknown_split ∙ enter_longer low vs T (replicate n 2) rest (rw length-replicate w)

  enter-first : (k : List ℕ) → enter low vs T (replicate n 2) ≡ some k → take n (k ++ rest) ≡ k
  enter-first k e =
      take_at k rest n ((entered_entries low vs T (replicate n 2) k e (unknown_entries n)).1 ∙ length-replicate {A = ℕ} n 2)

-- ---- the two tests of a pair, and the third
both_hold : (x y z : Bool) → (y && x) ≡ true → (x && (y && z)) ≡ z
both_hold true true z e = refl
both_hold true false z e = absurd (true≢false (sym e))
both_hold false true z e = absurd (true≢false (sym e))
both_hold false false z e = absurd (true≢false (sym e))

one_fails : (x y z : Bool) → (y && x) ≡ false → (x && (y && z)) ≡ false
one_fails true true z e = absurd (true≢false e)
one_fails true false z e = refl
one_fails false y z e = refl

-- ---- one pair
module _ (s : Settings) (nodes : List LutNode) (support : List ℕ) (left right : Cone) (truth : List ℕ) (xs ys : List ℤ) (ts counts : List ℕ) (m : Moments)
    (stands : Compacted (linear_table (coefficients_over support left)) (linear_table (coefficients_over support right)) truth xs ys ts counts)
    (even : length (coefficients_over support right) ≡ length (coefficients_over support left))
    (rows : length truth ≡ length (linear_table (coefficients_over support left)))
    (moments : m ≡ moments_of xs ys counts)
    (narrow : s.m ≤ 32) where
  abbrev L : List ℤ
  L = coefficients_over support left

  abbrev R : List ℤ
  R = coefficients_over support right

  abbrev ws : List ℕ
  ws = weights_of nodes support

  abbrev known_by : Context
  known_by = context s nodes support L R m

  -- what the definition evaluates
  abbrev evaluated : Scales → List Candidate
  evaluated p = evaluate s nodes p (cone_by support (merged_coefficients support left right p) truth)

  abbrev candidate : P.Option Score → Option Candidate
  candidate = candidate_of support left right truth

  -- the states of both walks: the score stands for the candidate, and its entries are those of its cone
  abbrev Same : P.Option Score → Option Candidate → Type 0
  Same best d = (candidate best ≡ d) × IfSome best (Found s support left right truth)

  module _ (a b : ℤ) (scaling : Scaling a b) where
    abbrev cs : List ℤ
    cs = merged a b L R

    abbrev all : List ℤ
    all = linear_table cs

    abbrev c : Pair
    c = measures ws a b (divisor (merged_row a b L R)) (normalised (merged_row a b L R))

    abbrev C : Cone
    C = cone_by support cs truth

    coefficients : merged_coefficients support left right (scales a b) ≡ cs
    unfolding merged merged_row scales
    coefficients = merged-coefficients support left right (scales a b)

    cone_is : merged_cone support left right truth a b ≡ C
    unfolding merged_cone
    cone_is = ap (λ l. cone_by support l truth) coefficients

    -- the rows' values are all rows' values
    all_is : all ≡ zip_with (merged_value a b (divisor (merged_row a b L R))) (linear_table L) (linear_table R)
    unfolding merged merged_row
    all_is = merged-values a b L R even

    columns : length (linear_table R) ≡ length (linear_table L)
    columns = rw (linear_table-length R, linear_table-length L, even)

    inside : Within (least all) all (span all)
    inside = record { at = λ i h. offset_lt all i h }

    module _ (h : span all ≤ 32) where
      rows_known : entered_from c xs ys ts 0 (replicate 32 2) ≡ enter (least all) all truth (replicate 32 2)
      unfolding entered_from row_values measures merged
      rows_known =
          known_compacted (linear_table L) (linear_table R) truth xs ys ts counts stands columns rows (merged_value a b (divisor (merged_row a b L R))) (least all) 32
          (subst (λ l. Within (least all) l 32) all_is (record { at = λ i q. omega (arith, offset_lt all i q) }))
          ∙ ap (λ l. enter (least all) l truth (replicate 32 2)) (sym all_is)

      known_is : entered_from c xs ys ts 0 (replicate 32 2) ≡ map (λ k. k ++ rest (least all) all truth (span all) h inside) (known_entries all truth)
      unfolding known_entries
      known_is = rows_known ∙ enter-all (least all) all truth (span all) h inside

      known-first : (k : List ℕ) → known_entries all truth ≡ some k → take (span all) (k ++ rest (least all) all truth (span all) h inside) ≡ k
      unfolding known_entries
      known-first k e = enter-first (least all) all truth (span all) h inside k e

    energy_is : energy_by m c ≡ energy all
    unfolding energy_by measures merged merged_row
    energy_is =
        ap (λ (z : Moments). nat_abs (quot_z (by_moments a b z.xx z.xy z.yy) (divisor (merged_row a b L R) *ℤ divisor (merged_row a b L R))))
        (moments ∙ moments_compacted (linear_table L) (linear_table R) truth xs ys ts counts stands)
        ∙ ap nat_abs (sym (energy_by_moments a b L R even))

    abbrev evaluated_one : Candidate
    evaluated_one = record { score = score s nodes (scales a b) C; cone = C }

    norm_is : norm2 nodes C ≡ weighted_norm ws cs
    unfolding cone_by
    norm_is = norm2_weighted nodes C

    one_is : (known : List ℕ) → one support left right truth (score_of known_by c known) ≡ evaluated_one
    unfolding score score_list rank_list score_of reuse_of reuse_cost linear_of values terms cone_span cone_by measures merged scales
    one_is known =
        ap₂ {C = Candidate}
        (λ (e : ℕ) (k : Cone). record { score = pos (reuse_cost s nodes C) ∷ pos (span all) ∷ pos (weighted_norm ws cs) ∷ pos e ∷ a ∷ b ∷ []; cone = k })
        energy_is cone_is
        ∙ ap {B = Candidate} (λ n. record { score = pos (reuse_cost s nodes C) ∷ pos (span all) ∷ pos n ∷ pos (energy all) ∷ a ∷ b ∷ []; cone = C }) (sym norm_is)

    -- the entries of the score are those that the rows gave
    held_back : (known : List ℕ) → known_entries all truth ≡ some known → numbers (P.map entry_of known) ≡ known
    unfolding known_entries
    held_back known e = numbers_back known (entered_entries (least all) all truth (replicate (span all) 2) known e (unknown_entries (span all))).0.at

    found_new : (known : List ℕ) → span all ≤ s.m → known_entries all truth ≡ some (take (span all) known) → Found s support left right truth (score_of known_by c known)
    unfolding score_of measures values cone_span cone_by merged
    found_new known h e =
        record {
          scaling = scaling;
          entries = ap (λ (k : Cone). known_entries (values k) truth) cone_is ∙ e ∙ ap some (sym (ap numbers (take-map entry_of (span all) known) ∙ held_back (take (span all) known) e));
          span_is = ap cone_span (sym cone_is);
          short = h;
        }

    -- the definition's step
    evaluated_is : evaluated (scales a b) ≡ (if fits s nodes C then evaluated_one ∷ [] otherwise [])
    unfolding evaluate
    evaluated_is = ap (λ l. evaluate s nodes (scales a b) (cone_by support l truth)) coefficients

    tried-no : (d : Option Candidate) → fits s nodes C ≡ false → tried evaluated d (scales a b) ≡ d
    unfolding tried best_from scales
    tried-no d e = by (is_scale_pair a b) (evaluated_is ∙ ap (λ t. if t then evaluated_one ∷ [] otherwise []) e)
      where
        by : (t : Bool) → evaluated (scales a b) ≡ [] → (if t then best_from d (evaluated (scales a b)) otherwise d) ≡ d
        by true f = ap (best_from d) f
        by false f = refl

    tried_yes : (d : Option Candidate) → is_scale_pair a b ≡ true → fits s nodes C ≡ true → tried evaluated d (scales a b) ≡ some (better d evaluated_one)
    unfolding tried best_from scales
    tried_yes d t e =
        ap (λ t. if t then best_from d (evaluated (scales a b)) otherwise d) t
        ∙ ap (best_from d) (evaluated_is ∙ ap (λ t. if t then evaluated_one ∷ [] otherwise []) e)

    tried_not : (d : Option Candidate) → is_scale_pair a b ≡ false → tried evaluated d (scales a b) ≡ d
    unfolding tried scales
    tried_not d t = ap (λ t. if t then best_from d (evaluated (scales a b)) otherwise d) t

    fits_is : fits s nodes C ≡ (within_norm s (weighted_norm ws cs) && (leb (span all) s.m && is_some (completed s.p (known_entries all truth))))
    unfolding fits is_lut_valid encoding cone_span values cone_by
    fits_is = ap (λ n. within_norm s n && (leb (span all) s.m && is_some (completed s.p (known_entries all truth)))) norm_is

    -- both steps
    stay : (old new : P.Option Score) (d e : Option Candidate) → new ≡ old → e ≡ d → Same old d → Same new e
    stay old new d e f g h = subst (λ r. Same r e) (sym f) (subst (λ o. Same old o) (sym g) h)

    module _ (best : P.Option Score) (d : Option Candidate) (same : Same best d) (is-pair : is_scale_pair a b ≡ true)
        (within : (leb (span all) s.m && within_norm s (weighted_norm ws cs)) ≡ true) where
      short : span all ≤ s.m
      short = leb-true (span all) s.m (both_left (leb (span all) s.m) (within_norm s (weighted_norm ws cs)) within)

      few : span all ≤ 32
      few = omega (arith, short)

      fits_by : fits s nodes C ≡ is_some (completed s.p (known_entries all truth))
      fits_by = fits_is ∙ both_hold (within_norm s (weighted_norm ws cs)) (leb (span all) s.m) (is_some (completed s.p (known_entries all truth))) within

      entered_step : (o : Option (List ℕ)) → known_entries all truth ≡ o
          → Same (considered known_by c best (entered_from c xs ys ts 0 (replicate 32 2))) (tried evaluated d (scales a b))
      unfolding considered completed completable measures merged score_of
      entered_step none e =
          stay best _ d _ (ap (considered known_by c best) (known_is few ∙ ap (map (λ k. k ++ rest (least all) all truth (span all) few inside)) e))
          (tried-no d (fits_by ∙ ap (λ o. is_some (completed s.p o)) e)) same
      entered_step (some k) e =
          let long = k ++ rest (least all) all truth (span all) few inside in
          let new = score_of known_by c long in
          let first = known-first few k e in
          let tested : considered known_by c best (entered_from c xs ys ts 0 (replicate 32 2)) ≡ (if completable s.p k then Some (better_score best new) otherwise best) =
          ap (considered known_by c best) (known_is few ∙ ap (map (λ k. k ++ rest (least all) all truth (span all) few inside)) e)
          ∙ ap (λ l. if completable s.p l then Some (better_score best new) otherwise best) first in
          ⊎_elim
          (λ (f : completable s.p k ≡ true).
          let fit = fits_by ∙ ap (λ o. is_some (completed s.p o)) e ∙ f in
          let step = tested ∙ ap (λ t. if t then Some (better_score best new) otherwise best) f in
          let one-step = better_candidate support left right truth best new ∙ ap₂ (λ o x. some (better o x)) same.0 (one_is long) ∙ sym (tried_yes d is-pair fit) in
          subst (λ r. Same r (tried evaluated d (scales a b))) (sym step) (one-step, found_better support left right truth s best new same.1 (found_new long short (e ∙ ap some (sym first)))))
          (λ (f : completable s.p k ≡ false).
          stay best _ d _ (tested ∙ ap (λ t. if t then Some (better_score best new) otherwise best) f) (tried-no d (fits_by ∙ ap (λ o. is_some (completed s.p o)) e ∙ f)) same)
          (decide (completable s.p k))

    module _ (best : P.Option Score) (d : Option Candidate) (same : Same best d) where
      abbrev entered : P.Option Score
      entered = considered known_by c best (entered_from c xs ys ts 0 (replicate 32 2))

      measured_step : is_scale_pair a b ≡ true → Same (step_of known_by xs ys ts (measured s ws a b (merged_row a b L R)) best) (tried evaluated d (scales a b))
      unfolding step_of measured weighed merged
      measured_step t =
          ⊎_elim
          (λ (e : (leb (span all) s.m && within_norm s (weighted_norm ws cs)) ≡ true).
          subst (λ r. Same r (tried evaluated d (scales a b))) (sym (ap (λ t. step_of known_by xs ys ts (if t then Some c otherwise None) best) e)) (entered_step best d same t e (known_entries all truth) refl))
          (λ (e : (leb (span all) s.m && within_norm s (weighted_norm ws cs)) ≡ false).
          stay best _ d _ (ap (λ t. step_of known_by xs ys ts (if t then Some c otherwise None) best) e)
          (tried-no d (fits_is ∙ one_fails (within_norm s (weighted_norm ws cs)) (leb (span all) s.m) (is_some (completed s.p (known_entries all truth))) e)) same)
          (decide (leb (span all) s.m && within_norm s (weighted_norm ws cs)))

      pub pair_step : Same (step_of known_by xs ys ts (pair_of s ws L R a b) best) (tried evaluated d (scales a b))
      unfolding pair_of step_of
      pair_step =
          ⊎_elim
          (λ (t : is_scale_pair a b ≡ true).
          subst (λ p. Same (step_of known_by xs ys ts p best) (tried evaluated d (scales a b))) (sym (ap (λ t. if t then measured s ws a b (merged_row a b L R) otherwise None) t)) (measured_step t))
          (λ (t : is_scale_pair a b ≡ false).
          stay best _ d _ (ap (λ t. step_of known_by xs ys ts (if t then measured s ws a b (merged_row a b L R) otherwise None) best) t) (tried_not d t) same)
          (decide (is_scale_pair a b))

  -- all pairs of some ranges
  pub walks_same : (r : Ranges) → InSpans r → Same (walk_all (step_at known_by xs ys ts) r None) (walk_all (tried_at evaluated) r none)
  unfolding step_at tried_at candidate_of
  walks_same r w =
      walks_keep Same (step_at known_by xs ys ts) (tried_at evaluated) r.b.start _ r.a.start _ None none
      (λ a b o q. pair_step a b (scaling_of r w a b o q))
      (refl, tt)
