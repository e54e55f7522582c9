-- The truths of a cone's rows: through a gate of one input, and whether all are the same.
use Rattle.std.specs.Prelude.{◌≡◌, refl, Bool, true, false, ◌&&◌, List, [], ◌∷◌, map, ◌≢◌, ℕ, zero, suc, ◌<◌, eqb, length, get_or}
use Rattle.std.proofs.Common.{not-suc-le-zero, le_of_suc-le-suc, arith, eq-eqb, ne_eqb}
use Rattle.laws.specs.Select.{all}
use Rattle.rules.specs.Composition.{all_equal}
use Rattle.rules.specs.Cone.{Cone}

-- The cone of a gate of one input on a cone: the same values, the gate's answer at each row.
unfoldable pub through_gate : Cone → List ℕ → Cone
through_gate c gate = record { support = c.support; coefficients = c.coefficients; truth = map (λ b. get_or gate b 0) c.truth }

-- ---- all are the first one, or one is not
all_same : (t : ℕ) (l : List ℕ) → ((i : ℕ) → i < length l → get_or l i 0 ≡ t) → all (eqb t) l ≡ true
unfolding all
all_same t [] h = refl
all_same t (x ∷ l) h =
    let e : x ≡ t = h 0 (omega arith) in
    rw (e, eq-eqb t t refl) (all_same t l (λ i k. h (suc i) (omega arith)))

pub all_equal_true : (l : List ℕ) → ((i : ℕ) → i < length l → get_or l i 0 ≡ get_or l 0 0) → all_equal l ≡ true
unfolding all_equal
all_equal_true [] h = refl
all_equal_true (t ∷ l) h = all_same t l (λ i k. h (suc i) (omega arith))

one-other : (t : ℕ) (l : List ℕ) (i : ℕ) → i < length l → get_or l i 0 ≢ t → all (eqb t) l ≡ false
unfolding all
one-other t [] i h n = absurd (not-suc-le-zero h)
one-other t (x ∷ l) zero h n = rw (ne_eqb t x (λ e. n (omega arith)))
one-other t (x ∷ l) (suc i) h n = by (eqb t x) (one-other t l i (le_of_suc-le-suc h) n)
  where
    by : (b : Bool) → all (eqb t) l ≡ false → (b && all (eqb t) l) ≡ false
    by true r = r
    by false r = refl

pub all_equal_false : (l : List ℕ) (i : ℕ) → i < length l → get_or l i 0 ≢ get_or l 0 0 → all_equal l ≡ false
unfolding all_equal
all_equal_false [] i h n = absurd (not-suc-le-zero h)
all_equal_false (t ∷ l) zero h n = absurd (n refl)
all_equal_false (t ∷ l) (suc i) h n = one-other t l i (le_of_suc-le-suc h) n
