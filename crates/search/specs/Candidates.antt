-- The candidate that a score stands for.
use Rattle.std.specs.Prelude as P
use Rattle.std.specs.Prelude.{Some, None, IfSome, refl, ◌≡◌, Bool, List, ℕ, ◌≤◌, ℤ, take}
use Rattle.std.proofs.Math.Bool.{true, false}
use Rattle.std.proofs.Math.Option.{Option, some}
use Rattle.laws.specs.Test.{if◌then◌otherwise◌, if_both}
use Rattle.rules.specs.declared.Settings.{Settings}
use Rattle.rules.specs.Builder.{known_entries}
use Rattle.rules.specs.Cone.{Cone, Candidate, values, cone_span, less, better}
use Rattle.rules.specs.Composition.{scales, merged_coefficients}
use Rattle.rotation.specs.Entries.{numbers}
use Rattle.scale_pair.specs.declared.score.Score.{Score}
use Rattle.scale_pair.specs.Pair.{Scaling}
use Rattle.scale_pair.specs.Score.{score_list, better_score}
use Rattle.search.specs.Options.{option_by}
use Rattle.search.specs.Search.{cone_by}

-- The merged cone of a pair, and the candidate that a score stands for.
unfoldable pub merged_cone : List ℕ → Cone → Cone → List ℕ → ℤ → ℤ → Cone
merged_cone support left right truth a b = cone_by support (merged_coefficients support left right (scales a b)) truth

abbrev pub one : List ℕ → Cone → Cone → List ℕ → Score → Candidate
one support left right truth r = record { score = score_list r; cone = merged_cone support left right truth r.rank.a r.rank.b }

unfoldable pub candidate_of : List ℕ → Cone → Cone → List ℕ → P.Option Score → Option Candidate
candidate_of support left right truth o = option_by (one support left right truth) o

-- What is known of a score: its entries are those of its cone, and the table is no longer than allowed.
pub record Found (s : Settings) (support : List ℕ) (left right : Cone) (truth : List ℕ) (r : Score) : Type 0 where
  pub scaling : Scaling r.rank.a r.rank.b
  pub entries : known_entries (values (merged_cone support left right truth r.rank.a r.rank.b)) truth ≡ some (numbers (take r.rank.span r.known))
  pub span_is : r.rank.span ≡ cone_span (merged_cone support left right truth r.rank.a r.rank.b)
  pub short : r.rank.span ≤ s.m

-- ---- the better of two scores is the better of two candidates
module _ (support : List ℕ) (left right : Cone) (truth : List ℕ) where
  pub better_candidate : (best : P.Option Score) (r : Score)
      → candidate_of support left right truth (Some (better_score best r)) ≡ some (better (candidate_of support left right truth best) (one support left right truth r))
  unfolding candidate_of better_score better
  better_candidate None r = refl
  better_candidate (Some best) r = by (less (score_list r) (score_list best))
    where
      by : (t : Bool) → some (one support left right truth (if t then r otherwise best)) ≡ some (if t then one support left right truth r otherwise one support left right truth best)
      by true = refl
      by false = refl

  pub found_better : (s : Settings) (best : P.Option Score) (r : Score) → IfSome best (Found s support left right truth) → Found s support left right truth r
      → Found s support left right truth (better_score best r)
  unfolding better_score
  found_better s None r old new = new
  found_better s (Some best) r old new = if_both (Found s support left right truth) (less (score_list r) (score_list best)) new old
