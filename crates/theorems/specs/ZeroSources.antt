-- Sources of coefficient 0 change neither the value of a row nor the values, the span and the norm that a linear form has.
use Rattle.std.specs.Prelude.{◌≡◌, Bool, ◌||◌, ℕ, zero, suc, ◌<◌, ◌^◌, ℤ, pos, nat_abs, ◌+ℤ◌, length}
use Rattle.std.proofs.Math.Path.{refl, sym, ap}
use Rattle.std.proofs.Common.{◌∙◌, add-zero, le_refl, mod-eq_of_lt, arith}
use Rattle.std.proofs.Math.Bool.{true, false}
use mathlib.Core.List.{List, [], ◌∷◌, map, append-nil}
use Rattle.std.proofs.Math.ListN.{get_or}
use Rattle.std.proofs.lemmas.List.{length-map}
use Rattle.std.proofs.Math.Seq.{take_all}
use Rattle.laws.specs.Digits.{digits, digits-length}
use Rattle.laws.specs.Integer.{ints, abs_parts, add_parts}
use Rattle.laws.specs.Select.{select, any, any_append}
use Rattle.laws.specs.Test.{if◌then◌otherwise◌}
use Rattle.rules.specs.Composition.{assigned}
use Rattle.rules.specs.Cone.{row_from, linear_table}
use Rattle.rules.specs.Network.{Term, LutNode, norm}
use Rattle.rules.specs.NetworkText.{sources, all_different}
use Rattle.rules.specs.Store.{is_used}
use Rattle.theorems.specs.ConeValues.{weigh, weigh_unused, value_at}
use Rattle.theorems.specs.LinearTables.{lower, total}
use Rattle.theorems.specs.SourceRows.{row_from-digits, row_over, own_digits, bits-digits, bits-assigned}
use Rattle.theorems.specs.Terms.{unused_zero, coefs, coefs_long}

weigh-rest : (c : ℤ) (cs ds : List ℤ) (b : ℕ) (s t : List ℕ) → weigh cs s ≡ weigh ds t → weigh (c ∷ cs) (b ∷ s) ≡ weigh (c ∷ ds) (b ∷ t)
unfolding weigh
weigh-rest c cs ds zero s t e = e
weigh-rest c cs ds (suc b) s t e = ap (λ v. c +ℤ v) e

-- the used terms alone give the same sum
pub weigh_selected : (f : ℕ → ℕ) (ts : List Term) → weigh (coefs (select is_used ts)) (map f (sources (select is_used ts))) ≡ weigh (coefs ts) (map f (sources ts))
unfolding select sources
weigh_selected f [] = refl
weigh_selected f (t ∷ ts) = by (is_used t) refl (weigh_selected f ts)
  where
    used : List Term
    used = select is_used ts

    by : (u : Bool) → is_used t ≡ u → weigh (coefs used) (map f (sources used)) ≡ weigh (coefs ts) (map f (sources ts))
        → weigh (coefs (if u then t ∷ used otherwise used)) (map f (sources (if u then t ∷ used otherwise used))) ≡ weigh (t.coef ∷ coefs ts) (f t.node ∷ map f (sources ts))
    by true e r = weigh-rest t.coef (coefs used) (coefs ts) (f t.node) (map f (sources used)) (map f (sources ts)) r
    by false e r = r ∙ sym (weigh_unused t.coef (coefs ts) (f t.node) (map f (sources ts)) (unused_zero t e))

-- and the same values, whatever is asked of one
any-map : {A B : Type 0} (p : B → Bool) (f : A → B) (l : List A) → any p (map f l) ≡ any (λ x. p (f x)) l
unfolding any
any-map p f [] = refl
any-map p f (x ∷ l) = ap (λ r. p (f x) || r) (any-map p f l)

any-values : (p : ℤ → Bool) (c : ℤ) (cs : List ℤ) → any p (linear_table (c ∷ cs)) ≡ (any p (linear_table cs) || any (λ v. p (c +ℤ v)) (linear_table cs))
unfolding linear_table
any-values p c cs = any_append p (linear_table cs) (map (λ v. c +ℤ v) (linear_table cs)) ∙ ap (λ r. any p (linear_table cs) || r) (any-map p (λ v. c +ℤ v) (linear_table cs))

any_zero : (p : ℤ → Bool) (c : ℤ) → nat_abs c ≡ 0 → (l : List ℤ) → any (λ v. p (c +ℤ v)) l ≡ any p l
unfolding any
any_zero p c e [] = refl
any_zero p c e (v ∷ l) =
    let q : c +ℤ v ≡ v = omega (arith, ints, abs_parts c, add_parts c v) in
    rw (any_zero p c e l, q)

either_same : (a : Bool) → (a || a) ≡ a
either_same true = refl
either_same false = refl

pub any_selected : (p : ℤ → Bool) (ts : List Term) → any p (linear_table (coefs (select is_used ts))) ≡ any p (linear_table (coefs ts))
unfolding select
any_selected p [] = refl
any_selected p (t ∷ ts) = by (is_used t) refl (any_selected p ts) (any_selected (λ v. p (t.coef +ℤ v)) ts)
  where
    used : List Term
    used = select is_used ts

    by : (u : Bool) → is_used t ≡ u → any p (linear_table (coefs used)) ≡ any p (linear_table (coefs ts))
        → any (λ v. p (t.coef +ℤ v)) (linear_table (coefs used)) ≡ any (λ v. p (t.coef +ℤ v)) (linear_table (coefs ts))
        → any p (linear_table (coefs (if u then t ∷ used otherwise used))) ≡ any p (linear_table (t.coef ∷ coefs ts))
    by true e r s = any-values p t.coef (coefs used) ∙ rw (r, s) (sym (any-values p t.coef (coefs ts)))
    by false e r s =
        r ∙ sym (any-values p t.coef (coefs ts) ∙ rw (any_zero p t.coef (unused_zero t e) (linear_table (coefs ts))) (either_same (any p (linear_table (coefs ts)))))

-- ---- They add nothing to the span, on either side of 0, nor to the norm.

module _ (F : List Term → ℕ) (none : (t : Term) (ts : List Term) → nat_abs t.coef ≡ 0 → F (t ∷ ts) ≡ F ts)
    (same : (t : Term) (ts us : List Term) → F ts ≡ F us → F (t ∷ ts) ≡ F (t ∷ us)) where
  used_same : (ts : List Term) → F (select is_used ts) ≡ F ts
  unfolding select
  used_same [] = refl
  used_same (t ∷ ts) = by (is_used t) refl (used_same ts)
    where
      by : (u : Bool) → is_used t ≡ u → F (select is_used ts) ≡ F ts → F (if u then t ∷ select is_used ts otherwise select is_used ts) ≡ F (t ∷ ts)
      by true e r = same t (select is_used ts) ts r
      by false e r = r ∙ sym (none t ts (unused_zero t e))

pub total_used : (ts : List Term) → total (coefs (select is_used ts)) ≡ total (coefs ts)
unfolding total
total_used = used_same (λ ts. total (coefs ts)) (λ t ts z. omega arith) (λ t ts us e. omega arith)

pub lower_used : (ts : List Term) → lower (coefs (select is_used ts)) ≡ lower (coefs ts)
unfolding lower
lower_used = used_same (λ ts. lower (coefs ts)) (λ t ts z. omega (arith, abs_parts t.coef)) (λ t ts us e. omega arith)

pub norm_used : (nodes : List LutNode) (ts : List Term) → norm nodes (select is_used ts) ≡ norm nodes ts
unfolding norm
norm_used nodes = used_same (norm nodes) (λ t ts z. rw z (omega arith)) (λ t ts us e. omega arith)

-- ---- The value at a row over the used sources is the value at that row of all sources.

module _ (ts : List Term) (different : all_different (sources (select is_used ts)) ≡ true) (i : ℕ) (h : i < 2 ^ length (sources (select is_used ts))) where
  pub used_value : get_or (linear_table (coefs ts)) (row_over (sources (select is_used ts)) (sources ts) i) (pos 0) ≡ get_or (linear_table (coefs (select is_used ts))) i (pos 0)
  unfolding row_over
  used_value =
      let U = sources (select is_used ts) in
      value_at (coefs ts) (map (assigned U (digits (length U) i)) (sources ts)) (length-map (sources ts) (assigned U (digits (length U) i)) ∙ coefs_long ts) (bits-assigned U i (sources ts))
      ∙ sym (weigh_selected (assigned U (digits (length U) i)) ts)
      ∙ ap (weigh (coefs (select is_used ts))) own
      ∙ sym (value_at (coefs (select is_used ts)) (digits (length U) i) (digits-length (length U) i ∙ coefs_long (select is_used ts)) (bits-digits (length U) i))
      ∙ ap (λ r. get_or (linear_table (coefs (select is_used ts))) r (pos 0)) row
    where
      own : map (assigned (sources (select is_used ts)) (digits (length (sources (select is_used ts))) i)) (sources (select is_used ts)) ≡ digits (length (sources (select is_used ts))) i
      own =
          let U = sources (select is_used ts) in
          rw append-nil at (own_digits U [] (digits (length U) i) different (digits-length (length U) i ∙ sym (add-zero (length U))))
          ∙ take_all (length U) (digits (length U) i) (rw (digits-length (length U) i) (le_refl _))

      row : row_from 0 (digits (length (sources (select is_used ts))) i) ≡ i
      row = row_from-digits 0 (length (sources (select is_used ts))) i ∙ rw (mod-eq_of_lt h) (omega arith)
