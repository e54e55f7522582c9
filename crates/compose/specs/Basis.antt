-- Two cones laid over their sources together, and the tables of their composition.
use Rattle.std.specs.Prelude.{◌≡◌, refl, true, false, not, ℕ, zero, suc, ◌+◌, ◌≤◌, ◌^◌, eqb, ℤ, pos, nat_abs, length, take}
use mathlib.Core.List.{List, [], ◌∷◌, map, zip_with}
use Rattle.std.proofs.Common.{sym, ap, subst, ◌∙◌, true≢false, ⊎_elim, zero-le, arith, eq-eqb, ne_eqb, length-take-le}
use Rattle.std.proofs.lemmas.Bool.{not-true}
use Rattle.laws.specs.Over.{over}
use Rattle.laws.specs.Test.{if◌then◌otherwise◌, if_both, eq-or-ne, neither_left, neither_right, both_left, both_right}
use Rattle.rules.specs.Cone.{Cone, linear_table, values, cone_span, terms}
use Rattle.rules.specs.Network.{member}
use Rattle.rules.specs.NetworkText.{all_different}
use Rattle.rules.specs.Span.{span}
use Rattle.rules.specs.Store.{coefficient_of}
use Rattle.rules.specs.Composition.{union_support, gate_truth}
use Rattle.scale.specs.Limits.{Within}
use Rattle.compose.specs.declared.basis.Basis.{Basis}
use Rattle.linear.specs.Span.{within_total}
use Rattle.linear.specs.Table.{few_rows}
use Rattle.theorems.specs.LinearTables.{total, span_table}
use Rattle.theorems.specs.Members.{Among}
use Rattle.support.specs.Support.{terms_are}
use Rattle.theorems.specs.Terms.{terms_over}

-- A cone's coefficients over a support.
unfoldable pub coefficients_over : List ℕ → Cone → List ℤ
coefficients_over support c = map (coefficient_of (terms c)) support

-- Both rows of a basis.
abbrev pub lefts : Basis → List ℤ
lefts b = take b.n b.left

abbrev pub rights : Basis → List ℤ
rights b = take b.n b.right

pub record IsBasis (left right : Cone) (b : Basis) : Type 0 where
  pub count : b.n ≡ length (union_support left.support right.support)
  pub sources : take b.n b.support ≡ union_support left.support right.support
  pub left_is : lefts b ≡ coefficients_over (union_support left.support right.support) left
  pub right_is : rights b ≡ coefficients_over (union_support left.support right.support) right

-- The three tables have an entry for each row over n sources.
pub record Room (n : ℕ) (xs ys : List ℤ) (truth : List ℕ) : Type 0 where
  pub x : 2 ^ n ≤ length xs
  pub y : 2 ^ n ≤ length ys
  pub t : 2 ^ n ≤ length truth

-- The tables before and after: at each row over the union the left value, the right value and the gate's answer.
pub record Composed (left right : Cone) (gate : List ℕ) (xs ys : List ℤ) (truth : List ℕ) (xs' ys' : List ℤ) (truth' : List ℕ) : Type 0 where
  pub x : xs' ≡ over (linear_table (coefficients_over (union_support left.support right.support) left)) xs
  pub y : ys' ≡ over (linear_table (coefficients_over (union_support left.support right.support) right)) ys
  pub t : truth' ≡ over (gate_truth (union_support left.support right.support) left right gate) truth

-- ---- laws: both rows of a basis have a coefficient for each source, and none is large
module _ (b : Basis) where
  pub lefts_long : length (lefts b) ≡ b.n
  lefts_long = length-take-le b.n b.left (omega (arith, b.few, b.left_long))

  pub rights_long : length (rights b) ≡ b.n
  rights_long = length-take-le b.n b.right (omega (arith, b.few, b.right_long))

  pub lefts_within : Within 1984 (lefts b)
  lefts_within i = omega (arith, within_total (lefts b) i, b.narrow_left)

  pub rights_within : Within 1984 (rights b)
  rights_within i = omega (arith, within_total (rights b) i, b.narrow_right)

  pub lefts_span : span (linear_table (lefts b)) ≤ 32
  lefts_span = omega (arith, span_table (lefts b), b.narrow_left)

  pub rights_span : span (linear_table (rights b)) ≤ 32
  rights_span = omega (arith, span_table (rights b), b.narrow_right)

-- ---- laws: tables of 2,048 entries have the rows of at most 11 sources
pub few_room : (n : ℕ) (xs ys : List ℤ) (truth : List ℕ) → n ≤ 11 → length xs ≡ 2048 → length ys ≡ 2048 → length truth ≡ 2048 → Room n xs ys truth
few_room n xs ys truth h x y t = let f = few_rows n h in record { x = omega arith; y = omega arith; t = omega arith }

-- ---- a coefficient over a support is one of the cone's, or 0
coefficient_within : (k : ℕ) (cs : List ℤ) (ns : List ℕ) (n : ℕ) → Within k cs → nat_abs (coefficient_of (terms_over cs ns) n) ≤ k
unfolding coefficient_of terms_over zip_with
coefficient_within k [] ns n w = zero-le
coefficient_within k (c ∷ cs) [] n w = zero-le
coefficient_within k (c ∷ cs) (m ∷ ns) n w = if_both (λ z. nat_abs z ≤ k) (eqb m n) (w 0) (coefficient_within k cs ns n (λ i. w (suc i)))

map_within : (k : ℕ) (f : ℕ → ℤ) → ((n : ℕ) → nat_abs (f n) ≤ k) → (l : List ℕ) → Within k (map f l)
map_within k f h [] i = zero-le
map_within k f h (n ∷ l) zero = h n
map_within k f h (n ∷ l) (suc i) = map_within k f h l i

pub coefficients_over_within : (k : ℕ) (U : List ℕ) (c : Cone) → Within k c.coefficients → Within k (coefficients_over U c)
unfolding coefficients_over
coefficients_over_within k U c w = map_within k (coefficient_of (terms c)) (λ n. rw (terms_are c) (coefficient_within k c.coefficients c.support n w)) U

-- ---- over different sources the coefficients add up to no more than the cone's
zeros_total : (U : List ℕ) → total (map (λ (n : ℕ). pos 0) U) ≡ 0
unfolding total
zeros_total [] = refl
zeros_total (u ∷ U) = let r = zeros_total U in omega arith

absent : (c : ℤ) (m : ℕ) (g : ℕ → ℤ) (U : List ℕ) → member m U ≡ false → map (λ (n : ℕ). if eqb m n then c otherwise g n) U ≡ map g U
unfolding member
absent c m g [] h = refl
absent c m g (u ∷ U) h = rw (neither_left (eqb m u) (member m U) h, absent c m g U (neither_right (eqb m u) (member m U) h))

one_more : (c : ℤ) (m : ℕ) (g : ℕ → ℤ) (U : List ℕ) → all_different U ≡ true
    → total (map (λ (n : ℕ). if eqb m n then c otherwise g n) U) ≤ nat_abs c + total (map g U)
unfolding total all_different
one_more c m g [] d = zero-le
one_more c m g (u ∷ U) d =
    ⊎_elim
    (λ (e : m ≡ u). rw (eq-eqb m u e, absent c m g U (rw (← e) at (not-true (member u U) (both_left (not (member u U)) (all_different U) d)))) (omega arith))
    (λ e. rw (ne_eqb m u e) (omega (arith, one_more c m g U (both_right (not (member u U)) (all_different U) d))))
    (eq-or-ne m u)

terms-total : (cs : List ℤ) (ns U : List ℕ) → all_different U ≡ true → total (map (coefficient_of (terms_over cs ns)) U) ≤ total cs
unfolding coefficient_of terms_over zip_with total
terms-total [] ns U d = omega (arith, zeros_total U)
terms-total (c ∷ cs) [] U d = omega (arith, zeros_total U)
terms-total (c ∷ cs) (m ∷ ns) U d =
    omega (arith, one_more c m (coefficient_of (terms_over cs ns)) U d, terms-total cs ns U d)

pub coefficients_over-total : (U : List ℕ) (c : Cone) → all_different U ≡ true → total (coefficients_over U c) ≤ total c.coefficients
unfolding coefficients_over
coefficients_over-total U c d = rw (terms_are c) (terms-total c.coefficients c.support U d)

-- ---- over different sources that hold the cone's own the span is the cone's
not_source : (cs : List ℤ) (ns : List ℕ) (m : ℕ) → member m ns ≡ false → coefficient_of (terms_over cs ns) m ≡ pos 0
unfolding coefficient_of terms_over zip_with member
not_source [] ns m h = refl
not_source (c ∷ cs) [] m h = refl
not_source (c ∷ cs) (n ∷ ns) m h =
    ⊎_elim
    (λ (e : m ≡ n). absurd (true≢false (sym (eq-eqb m n e) ∙ neither_left (eqb m n) (member m ns) h)))
    (λ e. rw (ne_eqb n m (λ q. e (sym q))) (not_source cs ns m (neither_right (eqb m n) (member m ns) h)))
    (eq-or-ne m n)

one_more_is : (c : ℤ) (m : ℕ) (g : ℕ → ℤ) (U : List ℕ) → all_different U ≡ true → member m U ≡ true → g m ≡ pos 0
    → total (map (λ (n : ℕ). if eqb m n then c otherwise g n) U) ≡ nat_abs c + total (map g U)
unfolding total all_different member
one_more_is c m g [] d h z = absurd (true≢false (sym h))
one_more_is c m g (u ∷ U) d h z =
    ⊎_elim
    (λ (e : m ≡ u).
    let none : nat_abs (g u) ≡ 0 = ap nat_abs (subst (λ k. g k ≡ pos 0) e z) in
    rw (eq-eqb m u e, absent c m g U (rw (← e) at (not-true (member u U) (both_left (not (member u U)) (all_different U) d)))) (omega (arith, none)))
    (λ e. rw (ne_eqb m u e) (omega (arith, one_more_is c m g U (both_right (not (member u U)) (all_different U) d) (rw (ne_eqb m u e) at h) z)))
    (eq-or-ne m u)

terms-total_is : (cs : List ℤ) (ns U : List ℕ) → length cs ≡ length ns → all_different U ≡ true → all_different ns ≡ true → Among ns U
    → total (map (coefficient_of (terms_over cs ns)) U) ≡ total cs
unfolding coefficient_of terms_over zip_with total all_different Among
terms-total_is [] ns U e d f a = zeros_total U
terms-total_is (c ∷ cs) [] U e d f a = absurd (omega (arith, e))
terms-total_is (c ∷ cs) (m ∷ ns) U e d f a =
    one_more_is c m (coefficient_of (terms_over cs ns)) U d a.0 (not_source cs ns m (not-true (member m ns) (both_left (not (member m ns)) (all_different ns) f)))
    ∙ ap (λ k. nat_abs c + k) (terms-total_is cs ns U (omega (arith, e)) d (both_right (not (member m ns)) (all_different ns) f) a.1)

pub coefficients_over-span : (U : List ℕ) (c : Cone) → length c.coefficients ≡ length c.support → all_different U ≡ true → all_different c.support ≡ true → Among c.support U
    → span (linear_table (coefficients_over U c)) ≡ cone_span c
unfolding coefficients_over cone_span values
coefficients_over-span U c e d f a =
    span_table (map (coefficient_of (terms c)) U)
    ∙ ap (λ k. k + 1) (rw (terms_are c) (terms-total_is c.coefficients c.support U e d f a))
    ∙ sym (span_table c.coefficients)
