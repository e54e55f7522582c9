-- The values of two cones merged under a scale pair: at each row a·x + b·y, divided by the divisor of the merged coefficients.
use Rattle.std.specs.Prelude.{◌≡◌, refl, ℕ, suc, ◌<◌, ℤ, pos, nat_abs, ◌+ℤ◌, ◌*ℤ◌, length, get_or}
use Rattle.std.proofs.Common.{sym, ap, ap₂, ◌∙◌, arith}
use mathlib.Core.List.{List, [], ◌∷◌, ◌++◌, map, zip_with}
use Rattle.std.proofs.Math.IntN.{zero-*ℤ}
use Rattle.std.specs.Int.Signed.{quot_z}
use Rattle.laws.specs.Integer.{ints, plus, minus, add_parts, plus_mul, minus_mul}
use Rattle.rules.specs.Scale.{divisor, quotients, normalised}
use Rattle.rules.specs.Cone.{Cone, linear_table, terms}
use Rattle.rules.specs.Store.{coefficient_of}
use Rattle.rules.specs.Composition.{Scales, merged_coefficients}
use Rattle.scale.specs.Divisor.{divisor_not_zero, normalised_exact}
use Rattle.compose.specs.Basis.{coefficients_over}
use Rattle.theorems.specs.ConeValues.{linear_table-length}
use Rattle.merged_rows.specs.MergedIntegers.{mul-add, add-mul, quot_of, zip_with_append, map_zip_with}
use Rattle.theorems.specs.Normalised.{normalised-length}

-- The value of a row before it is divided, and after.
unfoldable pub combined : ℤ → ℤ → ℤ → ℤ → ℤ
combined a b x y = (a *ℤ x) +ℤ (b *ℤ y)

unfoldable pub merged_value : ℤ → ℤ → ℤ → ℤ → ℤ → ℤ
merged_value a b d x y = quot_z ((a *ℤ x) +ℤ (b *ℤ y)) d

-- ---- The table of combined coefficients is the combined tables.

combined_add : (a b c d x y : ℤ) → combined a b (c +ℤ x) (d +ℤ y) ≡ combined a b c d +ℤ combined a b x y
unfolding combined
combined_add a b c d x y =
    rw (mul-add a c x, mul-add b d y)
    (omega
    (arith, ints, add_parts ((a *ℤ c) +ℤ (a *ℤ x)) ((b *ℤ d) +ℤ (b *ℤ y)), add_parts (a *ℤ c) (a *ℤ x), add_parts (b *ℤ d) (b *ℤ y), add_parts ((a *ℤ c) +ℤ (b *ℤ d)) ((a *ℤ x) +ℤ (b *ℤ y)), add_parts (a *ℤ c) (b *ℤ d), add_parts (a *ℤ x) (b *ℤ y)))

combined_zero : (a b : ℤ) → combined a b (pos 0) (pos 0) ≡ pos 0
unfolding combined plus minus
combined_zero a b =
    omega (arith, ints, add_parts (a *ℤ pos 0) (b *ℤ pos 0), plus_mul a (pos 0), minus_mul a (pos 0), plus_mul b (pos 0), minus_mul b (pos 0))

combined-shifted : (a b c d : ℤ) (s t : List ℤ)
    → zip_with (combined a b) (map (λ v. c +ℤ v) s) (map (λ v. d +ℤ v) t) ≡ map (λ v. combined a b c d +ℤ v) (zip_with (combined a b) s t)
unfolding zip_with
combined-shifted a b c d [] t = refl
combined-shifted a b c d (x ∷ s) [] = refl
combined-shifted a b c d (x ∷ s) (y ∷ t) = ap₂ {C = List ℤ} (λ v r. v ∷ r) (combined_add a b c d x y) (combined-shifted a b c d s t)

pub table_combined : (a b : ℤ) (l r : List ℤ) → length r ≡ length l
    → linear_table (zip_with (combined a b) l r) ≡ zip_with (combined a b) (linear_table l) (linear_table r)
unfolding linear_table zip_with
table_combined a b [] [] e = ap {B = List ℤ} (λ v. v ∷ []) (sym (combined_zero a b))
table_combined a b [] (d ∷ r) e = absurd (omega arith)
table_combined a b (c ∷ l) [] e = absurd (omega arith)
table_combined a b (c ∷ l) (d ∷ r) e =
    let q : length r ≡ length l = omega arith in
    let long : length (linear_table r) ≡ length (linear_table l) = rw (linear_table-length r, linear_table-length l, q) in
    ap {B = List ℤ} (λ t. t ++ map (λ v. combined a b c d +ℤ v) t) (table_combined a b l r q)
    ∙ ap {B = List ℤ} (λ t. zip_with (combined a b) (linear_table l) (linear_table r) ++ t) (sym (combined-shifted a b c d (linear_table l) (linear_table r)))
    ∙ sym (zip_with_append (combined a b) (linear_table l) (map (λ v. c +ℤ v) (linear_table l)) (linear_table r) (map (λ v. d +ℤ v) (linear_table r)) long)

-- ---- The table of coefficients that all have a factor.

unfoldable pub times : ℤ → List ℤ → List ℤ
times d = map (λ (x : ℤ). x *ℤ d)

times-shifted : (d c : ℤ) (t : List ℤ) → times d (map (λ v. c +ℤ v) t) ≡ map (λ v. (c *ℤ d) +ℤ v) (times d t)
unfolding times
times-shifted d c [] = refl
times-shifted d c (x ∷ t) = ap₂ {C = List ℤ} (λ v r. v ∷ r) (add-mul d c x) (times-shifted d c t)

times-append : (d : ℤ) (s t : List ℤ) → times d (s ++ t) ≡ times d s ++ times d t
unfolding times
times-append d [] t = refl
times-append d (x ∷ s) t = ap {B = List ℤ} (λ r. (x *ℤ d) ∷ r) (times-append d s t)

pub table_times : (d : ℤ) (cs : List ℤ) → linear_table (times d cs) ≡ times d (linear_table cs)
unfolding linear_table times
table_times d [] = ap {B = List ℤ} (λ v. v ∷ []) (sym (zero-*ℤ d))
table_times d (c ∷ cs) =
    ap {B = List ℤ} (λ t. t ++ map (λ v. (c *ℤ d) +ℤ v) t) (table_times d cs)
    ∙ ap {B = List ℤ} (λ t. times d (linear_table cs) ++ t) (sym (times-shifted d c (linear_table cs)))
    ∙ sym (times-append d (linear_table cs) (map (λ v. c +ℤ v) (linear_table cs)))

pub quotients-times : (d : ℤ) (l : List ℤ) → 0 < nat_abs d → quotients d (times d l) ≡ l
unfolding quotients times
quotients-times d [] h = refl
quotients-times d (x ∷ l) h = ap₂ {C = List ℤ} (λ v r. v ∷ r) (quot_of x d (x *ℤ d) h refl) (quotients-times d l h)

-- ---- Normalised coefficients, multiplied back.

times_of : (d : ℤ) (q l : List ℤ) → length q ≡ length l → ((i : ℕ) → get_or q i (pos 0) *ℤ d ≡ get_or l i (pos 0)) → times d q ≡ l
unfolding times
times_of d [] [] e h = refl
times_of d [] (y ∷ l) e h = absurd (omega arith)
times_of d (x ∷ q) [] e h = absurd (omega arith)
times_of d (x ∷ q) (y ∷ l) e h = ap₂ {C = List ℤ} (λ v r. v ∷ r) (h 0) (times_of d q l (omega arith) (λ i. h (suc i)))

pub normalised-times : (cs : List ℤ) → times (divisor cs) (normalised cs) ≡ cs
normalised-times cs = times_of (divisor cs) (normalised cs) cs (normalised-length cs) (normalised_exact cs)

pub table_divided : (cs : List ℤ) → linear_table (normalised cs) ≡ quotients (divisor cs) (linear_table cs)
table_divided cs =
    sym (quotients-times (divisor cs) (linear_table (normalised cs)) (divisor_not_zero cs))
    ∙ ap (quotients (divisor cs)) (sym (table_times (divisor cs) (normalised cs)) ∙ ap linear_table (normalised-times cs))

-- every value, multiplied back
pub table_times-divisor : (cs : List ℤ) → times (divisor cs) (linear_table (normalised cs)) ≡ linear_table cs
table_times-divisor cs = sym (table_times (divisor cs) (normalised cs)) ∙ ap linear_table (normalised-times cs)

-- ---- The values of merged coefficients.

quotients-combined : (a b d : ℤ) (xs ys : List ℤ) → quotients d (zip_with (combined a b) xs ys) ≡ zip_with (merged_value a b d) xs ys
unfolding quotients combined merged_value
quotients-combined a b d xs ys = map_zip_with (combined a b) (λ (x : ℤ). quot_z x d) xs ys

pub merged-values : (a b : ℤ) (l r : List ℤ) → length r ≡ length l
    → linear_table (normalised (zip_with (combined a b) l r))
    ≡ zip_with (merged_value a b (divisor (zip_with (combined a b) l r))) (linear_table l) (linear_table r)
merged-values a b l r e =
    table_divided (zip_with (combined a b) l r)
    ∙ ap (quotients (divisor (zip_with (combined a b) l r))) (table_combined a b l r e)
    ∙ quotients-combined a b (divisor (zip_with (combined a b) l r)) (linear_table l) (linear_table r)

-- prepare_coefficients by both rows of coefficients over the support
map_both : (f g : ℕ → ℤ) (h : ℤ → ℤ → ℤ) (s : List ℕ) → map (λ n. h (f n) (g n)) s ≡ zip_with h (map f s) (map g s)
unfolding zip_with
map_both f g h [] = refl
map_both f g h (n ∷ s) = ap {B = List ℤ} (λ r. h (f n) (g n) ∷ r) (map_both f g h s)

pub merged-coefficients : (U : List ℕ) (left right : Cone) (p : Scales)
    → merged_coefficients U left right p ≡ normalised (zip_with (combined p.a p.b) (coefficients_over U left) (coefficients_over U right))
unfolding merged_coefficients coefficients_over combined
merged-coefficients U left right p =
    ap normalised (map_both (coefficient_of (terms left)) (coefficient_of (terms right)) (λ x y. (p.a *ℤ x) +ℤ (p.b *ℤ y)) U)
