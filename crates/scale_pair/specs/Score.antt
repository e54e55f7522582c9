-- Scores as the code holds them.
use Rattle.std.specs.Prelude.{◌≡◌, refl, Bool, true, false, cond, List, [], ◌∷◌, ℕ, ltb, ℤ, pos, nat_abs, Option, None, Some}
use Rattle.std.specs.declared.cmp.Ordering.{Ordering}
use Rattle.std.specs.declared.cmp.Ordering.TheVariants.{Less, Equal, Greater}
use Rattle.std.specs.Ordering.{nat_cmp, int_cmp, is_lt, is_some_and, partial_ordering_then}
use Rattle.std.proofs.Common.{ap, ◌∙◌, arith}
use Rattle.std.proofs.lemmas.Bool.Decides.{nat_tests}
use Rattle.std.proofs.Math.Logic.{⊎_elim}
use Rattle.std.specs.Int.Signed.{lt_z}
use Rattle.laws.specs.Integer.{ints, false_lt_z}
use Rattle.laws.specs.Test.{if◌then◌otherwise◌, decide}
use Rattle.rules.specs.Cone.{less}
use Rattle.scale_pair.specs.declared.score.Rank.{Rank}
use Rattle.scale_pair.specs.declared.score.Score.{Score}

-- reuse, span, norm, energy, a, b
unfoldable pub rank_list : Rank → List ℤ
rank_list r = pos r.reuse ∷ pos r.span ∷ pos r.norm ∷ pos r.energy ∷ r.a ∷ r.b ∷ []

unfoldable pub score_list : Score → List ℤ
score_list s = rank_list s.rank

unfoldable pub better_score : Option Score → Score → Score
better_score None s = s
better_score (Some best) s = if less (score_list s) (score_list best) then s otherwise best

-- ---- laws of the comparison: the first numbers are equal, or decide
module _ (x y : ℤ) (xs ys : List ℤ) where
  pub less_same : x ≡ y → less xs ys ≡ less (x ∷ xs) (y ∷ ys)
  unfolding less
  less_same e = rw (false_lt_z x y (omega (arith, ints)), false_lt_z y x (omega (arith, ints)))

  pub less_differ : (x ≡ y → ⊥) → lt_z x y ≡ less (x ∷ xs) (y ∷ ys)
  unfolding less
  less_differ n =
      ⊎_elim
      (λ (e : lt_z x y ≡ true). rw e)
      (λ (e : lt_z x y ≡ false). ⊎_elim (λ (f : lt_z y x ≡ true). rw (e, f)) (λ (f : lt_z y x ≡ false). absurd (n (omega (arith, ints)))) (decide (lt_z y x)))
      (decide (lt_z x y))

pub less_differ_number : (x y : ℕ) (xs ys : List ℤ) → (x ≡ y → ⊥) → ltb x y ≡ less (pos x ∷ xs) (pos y ∷ ys)
less_differ_number x y xs ys n = less_differ (pos x) (pos y) xs ys (λ e. n (ap nat_abs e))

-- ---- the derived order is the comparison of the lists: by the first numbers, or by the rest
abbrev is_below : Option Ordering → Bool
is_below = is_some_and is_lt

module _ (o : Option Ordering) (xs ys : List ℤ) (rest : is_below o ≡ less xs ys) where
  pub first_int : (x y : ℤ) → is_below (partial_ordering_then (Some (int_cmp x y)) o) ≡ less (x ∷ xs) (y ∷ ys)
  unfolding less
  first_int x y = by (lt_z x y) (lt_z y x)
    where
      by : (t u : Bool) → is_below (partial_ordering_then (Some (cond t Less (cond u Greater Equal))) o) ≡ (if t then true otherwise if u then false otherwise less xs ys)
      by true u = refl
      by false true = refl
      by false false = rest

  pub first_number : (x y : ℕ) → is_below (partial_ordering_then (Some (nat_cmp x y)) o) ≡ less (pos x ∷ xs) (pos y ∷ ys)
  first_number x y = ap (λ c. is_below (partial_ordering_then (Some c) o)) (same x y) ∙ first_int (pos x) (pos y)
    where
      same : (x y : ℕ) → nat_cmp x y ≡ int_cmp (pos x) (pos y)
      same x y = grind (arith, nat_tests)

pub last_int : (x y : ℤ) → is_below (Some (int_cmp x y)) ≡ less (x ∷ []) (y ∷ [])
unfolding less
last_int x y = by (lt_z x y) (lt_z y x)
  where
    by : (t u : Bool) → is_lt (cond t Less (cond u Greater Equal)) ≡ (if t then true otherwise if u then false otherwise false)
    by true u = refl
    by false true = refl
    by false false = refl
