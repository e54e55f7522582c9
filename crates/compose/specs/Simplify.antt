-- A cone without the sources that have no coefficient.
use Rattle.std.specs.Prelude.{◌≡◌, refl, Bool, ℤ, pos, nat_abs, length, take, drop}
use Rattle.std.proofs.Math.Bool.{true, false}
use mathlib.Core.List.{List, [], ◌∷◌, zip_with}
use Prim.Native.Nat.{ℕ, zero, suc, ◌+◌, ◌≤◌, ◌<◌}
use Rattle.std.proofs.Common.{add-one, arith, drop_of_length-le}
use borrow.Author.Tests.{ne_eqb}
use Rattle.std.proofs.Math.ListN.{get_or}
use Rattle.std.proofs.Math.Seq.{drop-cons}
use Rattle.laws.specs.Select.{select}
use Rattle.laws.specs.Test.{if◌then◌otherwise◌}
use Rattle.rules.specs.Cone.{Cone, cone_bit, terms}
use Rattle.rules.specs.Network.{Term}
use Rattle.rules.specs.NetworkText.{sources, all_different}
use Rattle.rules.specs.Store.{is_used}
use Rattle.rules.specs.Composition.{over_rows, simplify_cone}
use Rattle.theorems.specs.Terms.{coefs, terms_over, sources_are}
use Rattle.compose.specs.declared.simplify.Retained.{Retained}
use Rattle.theorems.specs.Members.{different-select}

-- The arrays hold these terms.
pub record IsRetained (ts : List Term) (r : Retained) : Type 0 where
  pub count : r.n ≡ length ts
  pub nodes : take r.n r.support ≡ sources ts
  pub values : take r.n r.coefs ≡ coefs ts

-- A cone's truth at each row over a support.
unfoldable pub truth_over : List ℕ → Cone → List ℕ
truth_over U c = over_rows U (λ bit. cone_bit bit c)

-- ---- what is left of the used terms from i on, as a loop goes through them
unfoldable pub used_from : List ℤ → List ℕ → ℕ → List Term
used_from cs ns i = select is_used (terms_over (drop i cs) (drop i ns))

pub used_all : (cs : List ℤ) (ns : List ℕ) → used_from cs ns 0 ≡ select is_used (terms_over cs ns)
unfolding used_from
used_all cs ns = refl

module _ (cs : List ℤ) (ns : List ℕ) (i : ℕ) (same : length cs ≡ length ns) where
  pub used_end : length ns ≤ i → used_from cs ns i ≡ []
  unfolding used_from terms_over zip_with select
  used_end h = rw (drop_of_length-le cs {i = i} (omega arith))

  module _ (h : i < length ns) where
    pub used_on : 0 < nat_abs (get_or cs i (pos 0)) → used_from cs ns i ≡ record { coef = get_or cs i (pos 0); node = get_or ns i 0 } ∷ used_from cs ns (i + 1)
    unfolding used_from terms_over zip_with select is_used
    used_on k =
        rw (drop-cons cs i (pos 0) (omega arith), drop-cons ns i 0 h, ne_eqb (nat_abs (get_or cs i (pos 0))) 0 (λ e. omega arith), add-one)

    pub unused_on : get_or cs i (pos 0) ≡ pos 0 → used_from cs ns i ≡ used_from cs ns (i + 1)
    unfolding used_from terms_over zip_with select is_used
    unused_on e = rw (drop-cons cs i (pos 0) (omega arith), drop-cons ns i 0 h, e, add-one)

-- ---- the used sources are different too, and their coefficients are no larger
module _ (f : Term → Bool) where
  pub different-sources : (ts : List Term) → all_different (sources ts) ≡ true → all_different (sources (select f ts)) ≡ true
  different-sources ts d = rw (sources_are (select f ts)) (different-select (λ (t : Term). t.node) f ts (rw (sources_are ts) at d))

  pub near_sources : (k : ℕ) → 0 < k → (ts : List Term) → ((i : ℕ) → get_or (sources ts) i 0 < k) → (i : ℕ) → get_or (sources (select f ts)) i 0 < k
  unfolding select sources
  near_sources k h [] near i = h
  near_sources k h (t ∷ ts) near i = by (f t) (near_sources k h ts (λ j. near (suc j))) i
    where
      by : (u : Bool) → ((i : ℕ) → get_or (sources (select f ts)) i 0 < k) → (i : ℕ) → get_or (sources (if u then t ∷ select f ts otherwise select f ts)) i 0 < k
      by true r zero = near 0
      by true r (suc i) = r i
      by false r i = r i

-- ---- the whole cone
pub simplified : (c : Cone) → let used = select is_used (terms_over c.coefficients c.support) in
    simplify_cone c ≡ record { support = sources used; coefficients = coefs used; truth = truth_over (sources used) c }
unfolding simplify_cone truth_over terms terms_over
simplified c = refl
