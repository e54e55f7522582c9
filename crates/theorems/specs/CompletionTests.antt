-- The completions by the tests of the code, and a table without unknowns judged as known entries.
use Rattle.std.specs.Prelude.{◌≡◌, refl, Bool, true, ◌||◌, ℕ, zero, suc, ◌+◌, ◌*◌, ◌<◌, ◌≤◌}
use Rattle.std.proofs.Math.Path.{sym, subst}
use Rattle.std.proofs.Common.{◌∙◌, inl, ⊎_elim, arith}
use Rattle.std.proofs.Math.Bool.{false}
use mathlib.Core.List.{List}
use Rattle.std.proofs.Math.Option.{none, some}
use Rattle.std.proofs.Math.Dec.{T}
use Rattle.std.proofs.Math.ListN.{length, get_or}
use Rattle.laws.specs.Test.{if◌then◌otherwise◌, T-is, T-not_is, is_T, decide}
use Rattle.rules.specs.Rotation.{pair_sum, rotatable}
use Rattle.rules.specs.Builder.{Entries, filled, opposed, completion, completable, remains_for_all}
use Rattle.rules.specs.Runs.{all_bits}
use Rattle.theorems.specs.Bits.{bit_at}
use Rattle.theorems.specs.RotationRule.{one-sum, sum_one, rotatable_short, rotatable-small, rotatable_long}
use Rattle.theorems.specs.Completions.{Completes, completion_found, completion_is, filled-length, found, opposed-length, remains_found, some_table, sum-remains_for_all, sum_bound}

-- ---- by the tests of the code
module _ (P : ℕ) (known : List ℕ) where
  pub completion_zero : (t : List ℕ) → t ≡ filled 0 known → rotatable P (filled 0 known) ≡ true → some t ≡ completion P known
  unfolding completion
  completion_zero t is e = rw (is, e)

  pub completion-one : (t : List ℕ) → t ≡ filled 1 known → rotatable P (filled 0 known) ≡ false → rotatable P (filled 1 known) ≡ true → some t ≡ completion P known
  unfolding completion
  completion-one t is e f = rw (is, e, f)

  pub completion-opposed : (t : List ℕ) (r : Bool) → t ≡ opposed P known → r ≡ rotatable P (opposed P known)
      → rotatable P (filled 0 known) ≡ false → rotatable P (filled 1 known) ≡ false → (if r then some t otherwise none) ≡ completion P known
  unfolding completion
  completion-opposed t r is same e f = rw (is, same, e, f)

  pub completable-small : length known ≤ P → completable P known ≡ true
  completable-small h = T-is _ (found P known (inl (rw (rotatable-small P (filled 0 known) (rw filled-length h)) tt)))

  pub completable_long : 2 * P < length known → completable P known ≡ false
  unfolding completable completion
  completable_long h =
      rw (
        rotatable_long P (filled 0 known) (rw filled-length h),
        rotatable_long P (filled 1 known) (rw filled-length h),
        rotatable_long P (opposed P known) (rw opposed-length h),
      )

  module _ (entries : Entries known) (short : length known ≤ 2 * P) where
    completable-remains : (s : ℕ) → s ≤ 2 → remains_for_all s P known ≡ true → completable P known ≡ true
    completable-remains s h e = T-is _ (remains_found P known entries short s h (is_T _ e))

    completable_none : P < length known → remains_for_all 0 P known ≡ false → remains_for_all 1 P known ≡ false → remains_for_all 2 P known ≡ false → completable P known ≡ false
    completable_none h e f g = T-not_is _ (λ c. no (some_table P known c))
      where
        not-one : (s : ℕ) → s ≤ 2 → T (remains_for_all s P known) → ⊥
        not-one zero l t = subst T e t
        not-one (suc zero) l t = subst T f t
        not-one (suc (suc zero)) l t = subst T g t
        not-one (suc (suc (suc s))) l t = omega arith

        no : (t : List ℕ) × (completion P known ≡ some t) → ⊥
        no w =
            let is = completion_is known entries P w.0 w.1 in
            not-one (pair_sum P w.0 0) (sum_bound P known w.0 is.0 is.1 h) (sum-remains_for_all P known w.0 is.0 is.1)

    -- there is a completion that can be rotated exactly when one of the three sums remains for every pair
    pub completable-left : P < length known → (remains_for_all 0 P known || remains_for_all 1 P known || remains_for_all 2 P known) ≡ completable P known
    completable-left h = by (remains_for_all 0 P known) (remains_for_all 1 P known) (remains_for_all 2 P known) refl refl refl
      where
        by : (a b c : Bool) → remains_for_all 0 P known ≡ a → remains_for_all 1 P known ≡ b → remains_for_all 2 P known ≡ c → (a || b || c) ≡ completable P known
        by true b c e f g = sym (completable-remains 0 (omega arith) e)
        by false true c e f g = sym (completable-remains 1 (omega arith) f)
        by false false true e f g = sym (completable-remains 2 (omega arith) g)
        by false false false e f g = sym (completable_none h e f g)

-- ---- a table without unknowns, judged as known entries: four of the nine cases
pub full_entries : (t : List ℕ) → T (all_bits t) → Entries t
full_entries t bits = record { at = λ i. omega (arith, bit_at t i bits) }

module _ (P : ℕ) (t : List ℕ) (bits : T (all_bits t)) where
  full_completes : Completes t t
  full_completes = record { long = refl; bits = λ i h. bit_at t i bits; keeps = λ i h n. refl }

  full_same : (u : List ℕ) → Completes t u → T (rotatable P u) → T (rotatable P t)
  unfolding pair_sum
  full_same u c r =
      let l = c.long in
      let same : (i : ℕ) → i < length t → get_or t i 0 ≡ get_or u i 0 = λ i h. sym (c.keeps i h (λ e. omega (arith, bit_at t i bits))) in
      one-sum P t (pair_sum P u 0) (omega (arith, rotatable_short P u r))
      (λ i h. rw (same i (omega arith), same (i + P) (omega arith)) (sum_one P u r i (omega arith)))

  pub full_table : completable P t ≡ rotatable P t
  full_table = ⊎_elim (λ e. e ∙ sym (yes e)) (λ e. e ∙ sym (no e)) (decide (completable P t))
    where
      yes : completable P t ≡ true → rotatable P t ≡ true
      yes e =
          let w = some_table P t (is_T _ e) in
          let is = completion_is t (full_entries t bits) P w.0 w.1 in
          T-is _ (full_same w.0 is.0 is.1)

      no : completable P t ≡ false → rotatable P t ≡ false
      no e = T-not_is _ (λ r. subst T e (completion_found P t t full_completes r (full_entries t bits)))
