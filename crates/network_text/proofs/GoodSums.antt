-- A good sum's constant and its terms.
use Rattle.std.specs.Prelude.{◌≡◌, ◌&&◌, not, ◌≤◌, leb, ℤ, nat_abs}
use Rattle.std.proofs.Common.{arith, le-leb, leb→le}
use Rattle.std.proofs.Math.Bool.{true, false}
use Rattle.std.proofs.Math.Dec.{eqb}
use Rattle.std.proofs.lemmas.Bool.{lt-leb}
use mathlib.Core.List.{List, [], ◌∷◌}
use Rattle.laws.specs.Test.{both_left, both_right, is_T}
use Rattle.rules.specs.Network.{Term}
use Rattle.rules.specs.NetworkText.{small, good_terms}
use Rattle.forms.specs.Signed.{cap_signed, cap_abs, cap_exact}
use Rattle.nodes.specs.View.{FineTerms}
use Rattle.network_text.specs.Lines.{cap_term, cap_terms}

-- CONST is judged by what was read of it.
pub large_constant : (u : ℤ) → (nat_abs (cap_signed u) ≤ 31 → ⊥) → small u ≡ false
unfolding small
large_constant u h = lt-leb (nat_abs u) 31 (omega (arith, cap_abs u))

pub small_constant : (u : ℤ) → nat_abs (cap_signed u) ≤ 31 → small u ≡ true
unfolding small
small_constant u h = le-leb (nat_abs u) 31 (omega (arith, cap_abs u))

pub exact_constant : (u : ℤ) → nat_abs (cap_signed u) ≤ 31 → cap_signed u ≡ u
exact_constant u h = cap_exact u (omega arith)

pub ruleset constants = (large_constant, small_constant, exact_constant)

pub fine_terms : (ts : List Term) → good_terms ts ≡ true → FineTerms 65537 (cap_terms ts)
unfolding good_terms small FineTerms cap_terms cap_term
fine_terms [] h = tt
fine_terms (t ∷ ts) h =
    let one : (leb (nat_abs t.coef) 31 && not (eqb (nat_abs t.coef) 0)) ≡ true = both_left (leb (nat_abs t.coef) 31 && not (eqb (nat_abs t.coef) 0)) (good_terms ts) h in (
      leb→le (nat_abs t.coef) 31 (is_T _ (both_left (leb (nat_abs t.coef) 31) _ one)),
      omega arith,
      fine_terms ts (both_right (leb (nat_abs t.coef) 31 && not (eqb (nat_abs t.coef) 0)) (good_terms ts) h),
    )
