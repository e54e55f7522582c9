-- The terms of a sum, by their coefficients and their nodes.
use mathlib.Core.List.{List, zip_with, [], ◌∷◌, map}
use Rattle.std.specs.Prelude.{◌≡◌, refl, false, Bool, true, not, ℕ, suc, ℤ, nat_abs, eqb, length}
use Rattle.std.proofs.Common.{sym, ap, ◌∙◌, arith, eqb-true}
use Rattle.std.proofs.lemmas.Bool.{not-false}
use Rattle.std.proofs.lemmas.List.{length-map}
use Rattle.laws.specs.Select.{select}
use Rattle.laws.specs.Test.{if◌then◌otherwise◌}
use Rattle.rules.specs.Network.{Term}
use Rattle.rules.specs.Store.{is_used}
use Rattle.rules.specs.NetworkText.{sources}
use Rattle.theorems.specs.Normalised.{is_nonzero}

unfoldable pub terms_over : List ℤ → List ℕ → List Term
terms_over = zip_with (λ (k : ℤ) (n : ℕ). record { coef = k; node = n })

pub unused_zero : (t : Term) → is_used t ≡ false → nat_abs t.coef ≡ 0
unfolding is_used
unused_zero t e = eqb-true (nat_abs t.coef) 0 (not-false (eqb (nat_abs t.coef) 0) e)

pub sources_of : (cs : List ℤ) (ns : List ℕ) → length cs ≡ length ns → sources (terms_over cs ns) ≡ ns
unfolding sources terms_over zip_with
sources_of [] [] e = refl
sources_of [] (n ∷ ns) e = absurd (omega arith)
sources_of (c ∷ cs) [] e = absurd (omega arith)
sources_of (c ∷ cs) (n ∷ ns) e = ap {B = List ℕ} (λ l. n ∷ l) (sources_of cs ns (omega arith))

pub sources_are : (ts : List Term) → sources ts ≡ map (λ (t : Term). t.node) ts
unfolding sources
sources_are [] = refl
sources_are (t ∷ ts) = ap {B = List ℕ} (λ l. t.node ∷ l) (sources_are ts)

pub sources-length : (ts : List Term) → length (sources ts) ≡ length ts
unfolding sources
sources-length [] = refl
sources-length (t ∷ ts) = omega (arith, sources-length ts)

abbrev pub coefs : List Term → List ℤ
coefs = map (λ (t : Term). t.coef)

-- their coefficients are those that are not 0
pub coefs_used : (cs : List ℤ) (ns : List ℕ) → length cs ≡ length ns → coefs (select is_used (terms_over cs ns)) ≡ select is_nonzero cs
unfolding terms_over zip_with select is_used is_nonzero
coefs_used [] [] e = refl
coefs_used [] (n ∷ ns) e = absurd (omega arith)
coefs_used (c ∷ cs) [] e = absurd (omega arith)
coefs_used (c ∷ cs) (n ∷ ns) e = by (not (eqb (nat_abs c) 0)) (coefs_used cs ns (omega arith))
  where
    by : (b : Bool) → coefs (select is_used (terms_over cs ns)) ≡ select is_nonzero cs
        → coefs (if b then record { coef = c; node = n } ∷ select is_used (terms_over cs ns) otherwise select is_used (terms_over cs ns))
        ≡ (if b then c ∷ select is_nonzero cs otherwise select is_nonzero cs)
    by true r = ap {B = List ℤ} (λ l. c ∷ l) r
    by false r = r

pub coefs_of : (cs : List ℤ) (ns : List ℕ) → length cs ≡ length ns → coefs (terms_over cs ns) ≡ cs
unfolding terms_over zip_with
coefs_of [] [] e = refl
coefs_of [] (n ∷ ns) e = absurd (omega arith)
coefs_of (c ∷ cs) [] e = absurd (omega arith)
coefs_of (c ∷ cs) (n ∷ ns) e = ap {B = List ℤ} (λ l. c ∷ l) (coefs_of cs ns (omega arith))

pub terms_back : (ts : List Term) → terms_over (coefs ts) (sources ts) ≡ ts
unfolding terms_over zip_with sources
terms_back [] = refl
terms_back (t ∷ ts) = ap {B = List Term} (λ l. t ∷ l) (terms_back ts)

pub terms-length : (cs : List ℤ) (ns : List ℕ) → length cs ≡ length ns → length (terms_over cs ns) ≡ length ns
unfolding terms_over zip_with
terms-length [] [] e = refl
terms-length [] (n ∷ ns) e = absurd (omega arith)
terms-length (c ∷ cs) [] e = absurd (omega arith)
terms-length (c ∷ cs) (n ∷ ns) e = ap suc (terms-length cs ns (omega arith))

pub coefs_long : (ts : List Term) → length (sources ts) ≡ length (coefs ts)
coefs_long ts = sources-length ts ∙ sym (length-map ts (λ (t : Term). t.coef))
