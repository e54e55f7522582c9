-- The cone that a scale pair merges two cones to.
use Rattle.std.specs.Prelude as P
use Rattle.std.specs.Prelude.{Some, None, IfSome, ◌≡◌, true, List, ℕ, ◌≤◌, ◌<◌, ◌^◌, ℤ}
use Rattle.std.proofs.Math.Path.{refl, sym, ap, ap₂}
use Rattle.std.proofs.Common.{◌∙◌, le_refl, arith}
use Rattle.std.proofs.Math.Option.{Option, some, map}
use Rattle.std.proofs.Math.ListN.{length, get_or, take}
use Rattle.std.proofs.Math.Seq.{take_all}
use Rattle.rules.specs.declared.Settings.{Settings}
use Rattle.rules.specs.Builder.{known_entries}
use Rattle.rules.specs.Cone as C
use Rattle.rules.specs.Cone.{values, cone_span, linear_table}
use Rattle.rules.specs.Composition.{scales, union_support, merged_coefficients, find_candidate, simplify_cone, merge_cones}
use Rattle.rules.specs.Network.{LutNode}
use Rattle.rules.specs.NetworkText.{all_different}
use Rattle.rules.specs.Span.{span}
use Rattle.compose.specs.declared.basis.Basis.{Basis}
use Rattle.compose.specs.Basis.{lefts, rights, lefts_long, IsBasis}
use Rattle.cone.specs.Fields.{cone_from, Fits, truths_made}
use Rattle.cone.specs.View.{numbers}
use Rattle.theorems.specs.ConeValues.{linear_table-length}
use Rattle.scale_pair.specs.declared.score.Score.{Score}
use Rattle.search.specs.Candidates.{merged_cone, candidate_of, Found}
use Rattle.merged_rows.specs.MergedValues.{merged-coefficients}
use Rattle.scale_pair.specs.Pair.{basis_rows, Scaling, merged_row, merged, merged-length}
use Rattle.search.specs.Options.{option_by}
use Rattle.search.specs.Policies.{Finds}
use Rattle.search.specs.Search.{cone_by}

-- The cone of the pair that was found, over the sources of both cones.
unfoldable pub merged_of : Basis → Score → C.Cone
merged_of basis best = cone_from basis.n basis.support (merged best.rank.a best.rank.b (lefts basis) (rights basis)) best.known

-- It is a cone within the limits, but for the lengths of its arrays.
pub record Mergeable (basis : Basis) (best : Score) : Type 0 where
  pub scaling : Scaling best.rank.a best.rank.b
  pub different : all_different (merged_of basis best).support ≡ true
  pub narrow : cone_span (merged_of basis best) ≤ 32
  pub near : (i : ℕ) → get_or (merged_of basis best).support i 0 < 672
  pub held : known_entries (values (merged_of basis best)) (merged_of basis best).truth
      ≡ some (numbers (take (cone_span (merged_of basis best)) best.known))

-- What is made of the pair, if there is one.
unfoldable pub merged_by : Basis → P.Option Score → Option C.Cone
merged_by basis o = option_by (λ (best : Score). simplify_cone (merged_of basis best)) o

-- ---- its arrays
module _ (basis : Basis) (best : Score) where
  abbrev L : List ℤ
  L = lefts basis

  abbrev R : List ℤ
  R = rights basis

  merged_long : length (merged best.rank.a best.rank.b L R) ≡ basis.n
  merged_long = merged-length L R (basis_rows basis) best.rank.a best.rank.b ∙ lefts_long basis

  pub merged-support : (merged_of basis best).support ≡ take basis.n basis.support
  unfolding merged_of
  merged-support = refl

  merged-coefs : (merged_of basis best).coefficients ≡ merged best.rank.a best.rank.b L R
  unfolding merged_of
  merged-coefs = take_all basis.n (merged best.rank.a best.rank.b L R) (rw merged_long (le_refl _))

  pub merged-coefs_long : length (merged_of basis best).coefficients ≡ basis.n
  merged-coefs_long = ap length merged-coefs ∙ merged_long

  -- the coefficients in an array of 11
  module _ (m : Mergeable basis best) (coefs : List ℤ) (e : take basis.n coefs ≡ merged best.rank.a best.rank.b L R) where
    same : take basis.n coefs ≡ take basis.n (merged best.rank.a best.rank.b L R)
    same = e ∙ sym (take_all basis.n (merged best.rank.a best.rank.b L R) (rw merged_long (le_refl _)))

    pub made_is : cone_from basis.n basis.support coefs best.known ≡ merged_of basis best
    unfolding merged_of
    made_is = rw same

    pub made_fits : Fits basis.n basis.support coefs best.known
    unfolding merged_of values cone_span
    made_fits = record { few = basis.few; form = record { different = m.different; near = m.near; narrow = rw same m.narrow }; held = rw same m.held }

-- ---- what was found can be merged
cone_of_lem : (c : C.Cone) (ns : List ℕ) (cs : List ℤ) (ts : List ℕ) → c.support ≡ ns → c.coefficients ≡ cs → c.truth ≡ ts → c ≡ cone_by ns cs ts
unfolding cone_by
cone_of_lem c ns cs ts e f g = ap (λ l. cone_by l c.coefficients c.truth) e ∙ ap₂ (λ x y. cone_by ns x y) f g

module _ (left right : C.Cone) (truth : List ℕ) (basis : Basis) (best : Score) (s : Settings)
    (is : IsBasis left right basis) (t_long : length truth ≡ 2 ^ basis.n) (found : Found s (union_support left.support right.support) left right truth best) where
  abbrev U : List ℕ
  U = union_support left.support right.support

  abbrev X : C.Cone
  X = merged_cone U left right truth best.rank.a best.rank.b

  coefs_are : (merged_of basis best).coefficients ≡ merged_coefficients U left right (scales best.rank.a best.rank.b)
  unfolding merged merged_row scales
  coefs_are = merged-coefs basis best ∙ ap₂ (merged best.rank.a best.rank.b) is.left_is is.right_is ∙ sym (merged-coefficients U left right (scales best.rank.a best.rank.b))

  support_is : (merged_of basis best).support ≡ U
  support_is = merged-support basis best ∙ is.sources

  values_are : values (merged_of basis best) ≡ values X
  unfolding values merged_cone cone_by
  values_are = ap linear_table coefs_are

  values_long : length (values X) ≡ length truth
  unfolding values
  values_long = ap length (sym values_are) ∙ linear_table-length (merged_of basis best).coefficients ∙ ap (λ k. 2 ^ k) (merged-coefs_long basis best) ∙ sym t_long

  entries : known_entries (values (merged_of basis best)) truth ≡ some (numbers (take (cone_span (merged_of basis best)) best.known))
  unfolding cone_span
  entries = ap (λ v. known_entries v truth) values_are ∙ found.entries ∙ ap (λ k. some (numbers (take k best.known))) (found.span_is ∙ ap span (sym values_are))

  truths_are : (merged_of basis best).truth ≡ truth
  unfolding merged_of values cone_span
  truths_are = truths_made (merged_of basis best).coefficients truth (ap length values_are ∙ values_long) best.known entries

  merged_is : merged_of basis best ≡ X
  unfolding merged_cone
  merged_is = cone_of_lem (merged_of basis best) U (merged_coefficients U left right (scales best.rank.a best.rank.b)) truth support_is coefs_are truths_are

  pub found_mergeable : s.m ≤ 32 → all_different U ≡ true → ((i : ℕ) → get_or U i 0 < 672) → Mergeable basis best
  found_mergeable small different near =
      record {
        scaling = found.scaling;
        different = rw support_is different;
        narrow = rw merged_is (omega (arith, found.span_is, found.short));
        near = λ i. rw support_is (near i);
        held = ap (known_entries (values (merged_of basis best))) truths_are ∙ entries;
      }

-- it is the definition's
module _ (s : Settings) (nodes : List LutNode) (left right : C.Cone) (truth : List ℕ) (basis : Basis) (best : P.Option Score)
    (is : IsBasis left right basis) (t_long : length truth ≡ 2 ^ basis.n) (finds : Finds s nodes left right truth best) where
  pub merged_by_lem : merged_by basis best ≡ map merge_cones (find_candidate s nodes (union_support left.support right.support) left right truth)
  unfolding merged_by candidate_of merge_cones
  merged_by_lem = by best finds.found ∙ ap (map merge_cones) finds.candidate
    where
      by : (o : P.Option Score) → IfSome o (Found s (union_support left.support right.support) left right truth)
          → merged_by basis o ≡ map merge_cones (candidate_of (union_support left.support right.support) left right truth o)
      by None f = refl
      by (Some r) f = ap (λ c. some (simplify_cone c)) (merged_is left right truth basis r s is t_long f)
