-- Rows of a cone over the rows of a larger support, from one to the next.
use Rattle.std.specs.Prelude.{◌≡◌, Bool, true, false, ℕ, zero, suc, ◌+◌, ◌-◌, ◌*◌, ◌/◌, ◌%◌, ◌^◌, ◌<◌, ◌≤◌, max, eqb, leb, length, get_or, set}
use Rattle.std.proofs.Math.Path.{refl, ap}
use Rattle.std.proofs.Common.{sym, ap₂, ◌∙◌, ⊎_elim, one-mul, mod-eq_of_lt, lt_of_lt_of_le, le_trans, mul-le-mul_right, arith, take_at, get_or-set_same, get_or-set_other, eq-eqb, ne_eqb, le-leb, length-append, shr_lt}
use mathlib.Core.List.{List, [], ◌∷◌, ◌++◌, map}
use Rattle.std.proofs.Math.Nat.{zero-div, two-pow-succ}
use Rattle.std.specs.Int.Bits.{bit_xor, bit_or, differ, xor_step, or_step, or_shifted_r}
use Rattle.std.specs.Int.Count.{count_trailing_zeros}
use Rattle.std.proofs.Math.Dec.{eqb-suc-suc, eqb-zero-suc, leb-suc-zero}
use Rattle.std.proofs.lemmas.Bool.{lt-leb}
use Rattle.std.proofs.lemmas.List.{length-map}
use Rattle.laws.specs.Digits.{bit, digit, digit_lt, bit-step, trailing_small, digits, digits-length, digits-upper}
use Rattle.laws.specs.Test.{if◌then◌otherwise◌, if_both, lt_or_le, eq-or-ne}
use Rattle.rules.specs.Cone.{row_from}
use Rattle.rules.specs.Composition.{assigned}
use Rattle.rules.specs.NetworkText.{all_different}
use Rattle.theorems.specs.ConeRows.{row_from_shift}
use Rattle.theorems.specs.SourceRows.{row_from-digits, row_over, assigned-digit, own_digits}

-- Whether the digit of a source changes where the next row has z trailing zeros; and the toggle mask of those that do.
unfoldable pub changed : List ℕ → ℕ → ℕ → ℕ
changed [] z s = 0
changed (m ∷ U) z s = let r = changed U z s in if eqb m s then digit (leb (length U) z) otherwise r

unfoldable pub toggle_mask : List ℕ → List ℕ → ℕ → ℕ
toggle_mask U rs z = row_from 0 (map (changed U z) rs)

pub changed-digit : (U : List ℕ) (z s : ℕ) → changed U z s < 2
unfolding changed
changed-digit [] z s = omega arith
changed-digit (m ∷ U) z s = if_both (λ d. d < 2) (eqb m s) (digit_lt (leb (length U) z)) (changed-digit U z s)

by_test : (t : Bool) (f : ℕ → ℕ → ℕ) (a b c a' b' c' : ℕ) → a ≡ f b c → a' ≡ f b' c' → (if t then a otherwise a') ≡ f (if t then b otherwise b') (if t then c otherwise c')
by_test true f a b c a' b' c' e e' = e
by_test false f a b c a' b' c' e e' = e'

assigned-step : (U : List ℕ) (w i s : ℕ) → length U ≤ w
    → assigned U (digits (length U) (i + 1)) s ≡ differ (assigned U (digits (length U) i) s) (changed U (count_trailing_zeros w (i + 1)) s)
unfolding assigned digits changed
assigned-step [] w i s h = refl
assigned-step (m ∷ U) w i s h =
    by_test (eqb m s) differ (bit (length U) (i + 1)) (bit (length U) i) (digit (leb (length U) (count_trailing_zeros w (i + 1)))) _ _ _
    (bit-step (length U) w i (omega arith)) (assigned-step U w i s (omega arith))

-- rows digit by digit
module _ (op : ℕ → ℕ → ℕ) (on : ℕ → ℕ → ℕ) (step : (a b : ℕ) → op a b ≡ op (a / 2) (b / 2) * 2 + on (a % 2) (b % 2)) where
  doubled : (x y b c : ℕ) → b < 2 → c < 2 → op (2 * x + b) (2 * y + c) ≡ 2 * op x y + on b c
  doubled x y b c h k =
      let xq : (2 * x + b) / 2 ≡ x = omega arith in
      let yq : (2 * y + c) / 2 ≡ y = omega arith in
      let xr : (2 * x + b) % 2 ≡ b = omega arith in
      let yr : (2 * y + c) % 2 ≡ c = omega arith in
      step (2 * x + b) (2 * y + c) ∙ rw (xq, yq, xr, yr) (omega arith)

  pub row_by_row : (f g : ℕ → ℕ) → ((s : ℕ) → f s < 2) → ((s : ℕ) → g s < 2) → (rs : List ℕ) (x y : ℕ)
      → op (row_from x (map f rs)) (row_from y (map g rs)) ≡ row_from (op x y) (map (λ s. on (f s) (g s)) rs)
  unfolding row_from
  row_by_row f g hf hg [] x y = refl
  row_by_row f g hf hg (r ∷ rs) x y =
      row_by_row f g hf hg rs (2 * x + f r) (2 * y + g r)
      ∙ ap (λ n. row_from n (map (λ s. on (f s) (g s)) rs)) (doubled x y (f r) (g r) (hf r) (hg r))

map_same : (f g : ℕ → ℕ) (rs : List ℕ) → ((s : ℕ) → f s ≡ g s) → map f rs ≡ map g rs
map_same f g [] h = refl
map_same f g (r ∷ rs) h = ap₂ {C = List ℕ} (λ x l. x ∷ l) (h r) (map_same f g rs h)

-- The next row, by the mask that the trailing zeros of its number pick. w is the machine's width.
pub row_over-step : (U rs : List ℕ) (w i : ℕ) → length U ≤ w → row_over U rs (i + 1) ≡ bit_xor (row_over U rs i) (toggle_mask U rs (count_trailing_zeros w (i + 1)))
unfolding row_over toggle_mask
row_over-step U rs w i h =
    ap (row_from 0) (map_same _ _ rs (λ s. assigned-step U w i s h))
    ∙ sym (row_by_row bit_xor differ xor_step _ _ (assigned-digit U i) (changed-digit U (count_trailing_zeros w (i + 1))) rs 0 0)

zero_digit : (U : List ℕ) (s : ℕ) → assigned U (digits (length U) 0) s ≡ 0
unfolding assigned digits bit
zero_digit [] s = refl
zero_digit (m ∷ U) s = if_both (λ d. d ≡ 0) (eqb m s) (rw zero-div) (zero_digit U s)

zero_row : (f : ℕ → ℕ) → ((s : ℕ) → f s ≡ 0) → (rs : List ℕ) → row_from 0 (map f rs) ≡ 0
unfolding row_from
zero_row f h [] = refl
zero_row f h (r ∷ rs) = rw (h r) (zero_row f h rs)

pub row_over_zero : (U rs : List ℕ) → row_over U rs 0 ≡ 0
unfolding row_over
row_over_zero U rs = zero_row _ (zero_digit U) rs

-- a row is below 2 to the number of sources
row_lt : (f : ℕ → ℕ) → ((s : ℕ) → f s < 2) → (rs : List ℕ) (x : ℕ) → row_from x (map f rs) < (x + 1) * 2 ^ length rs
unfolding row_from
row_lt f h [] x = omega arith
row_lt f h (r ∷ rs) x = lt_of_lt_of_le (row_lt f h rs (2 * x + f r)) (rw two-pow-succ (le_trans (mul-le-mul_right (2 ^ length rs) (more (h r))) (omega arith)))
  where
    more : f r < 2 → 2 * x + f r + 1 ≤ 2 * (x + 1)
    more k = omega arith

-- ---- The sources of U itself, and more after them: the row is the quotient.

pub row_over_own : (ls new : List ℕ) (i : ℕ) → all_different ls ≡ true → i < 2 ^ (length ls + length new) → row_over (ls ++ new) ls i ≡ i / 2 ^ length new
unfolding row_over
row_over_own ls new i h l =
    rw (own_digits ls new (digits (length (ls ++ new)) i) h (digits-length (length (ls ++ new)) i ∙ length-append ls new), length-append ls new, digits-upper (length ls) (length new) i, take_at (digits (length ls) (i / 2 ^ length new)) (digits (length new) i) (length ls) (digits-length (length ls) (i / 2 ^ length new)), row_from-digits, mod-eq_of_lt (shr_lt (length ls) (length new) l))
    (omega arith)

-- ---- How the masks are made: first the one source that a digit belongs to, then all up to it.

-- where a node stands first; as many as there are where it does not stand
unfoldable pub position : List ℕ → ℕ → ℕ
position [] n = 0
position (m ∷ ms) n = let r = suc (position ms n) in if eqb m n then 0 otherwise r

unfoldable pub hit : List ℕ → ℕ → ℕ → ℕ
hit U z s = digit (eqb (position U s + z + 1) (length U))

unfoldable pub hit_mask : List ℕ → List ℕ → ℕ → ℕ
hit_mask U rs z = row_from 0 (map (hit U z) rs)

pub hit-digit : (U : List ℕ) (z s : ℕ) → hit U z s < 2
unfolding hit
hit-digit U z s = digit_lt (eqb (position U s + z + 1) (length U))

hit_none : (z s : ℕ) → hit [] z s ≡ 0
unfolding hit position
hit_none z s = ap digit (ne_eqb (0 + z + 1) 0 (λ e. omega arith))

hit_cons : (m : ℕ) (U : List ℕ) (z s : ℕ) → hit (m ∷ U) z s ≡ (if eqb m s then digit (eqb (z + 1) (suc (length U))) otherwise hit U z s)
unfolding hit position
hit_cons m U z s = by (eqb m s)
  where
    by : (t : Bool) → digit (eqb ((if t then 0 otherwise suc (position U s)) + z + 1) (suc (length U)))
        ≡ (if t then digit (eqb (z + 1) (suc (length U))) otherwise digit (eqb (position U s + z + 1) (length U)))
    by true = ap (λ k. digit (eqb k (suc (length U)))) (omega arith)
    by false =
        let e : suc (position U s) + z + 1 ≡ suc (position U s + z + 1) = omega arith in
        rw (e, eqb-suc-suc)

-- the first mask
at_first : (n : ℕ) → leb n 0 ≡ eqb (0 + 1) (suc n)
at_first zero = refl
at_first (suc n) = rw (leb-suc-zero, eqb-suc-suc, eqb-zero-suc)

changed-first : (U : List ℕ) (s : ℕ) → changed U 0 s ≡ hit U 0 s
unfolding changed
changed-first [] s = sym (hit_none 0 s)
changed-first (m ∷ U) s = rw (hit_cons, at_first, changed-first U s)

pub toggle_mask-first : (U rs : List ℕ) → toggle_mask U rs 0 ≡ hit_mask U rs 0
unfolding toggle_mask hit_mask
toggle_mask-first U rs = ap (row_from 0) (map_same _ _ rs (changed-first U))

-- and each later one, with the one before
at_next : (n z : ℕ) → digit (leb n (z + 1)) ≡ max (digit (eqb (z + 1 + 1) (suc n))) (digit (leb n z))
at_next n z =
    ⊎_elim
    (λ (l : z < n). ⊎_elim
    (λ (k : z + 1 < n). rw (lt-leb n (z + 1) k, ne_eqb (z + 1 + 1) (suc n) (λ e. omega arith), lt-leb n z l))
    (λ (k : n ≤ z + 1). rw (le-leb n (z + 1) k, eq-eqb (z + 1 + 1) (suc n) (omega arith), lt-leb n z l))
    (lt_or_le (z + 1) n))
    (λ (l : n ≤ z). rw (le-leb n (z + 1) (omega arith), ne_eqb (z + 1 + 1) (suc n) (λ e. omega arith), le-leb n z l))
    (lt_or_le z n)

changed_next : (U : List ℕ) (z s : ℕ) → changed U (z + 1) s ≡ max (hit U (z + 1) s) (changed U z s)
unfolding changed
changed_next [] z s = rw hit_none
changed_next (m ∷ U) z s =
    rw hit_cons
    (by_test (eqb m s) max (digit (leb (length U) (z + 1))) (digit (eqb (z + 1 + 1) (suc (length U)))) (digit (leb (length U) z)) _ _ _
    (at_next (length U) z) (changed_next U z s))

pub toggle_mask_next : (U rs : List ℕ) (z : ℕ) → toggle_mask U rs (z + 1) ≡ bit_or (hit_mask U rs (z + 1)) (toggle_mask U rs z)
unfolding toggle_mask hit_mask
toggle_mask_next U rs z =
    ap (row_from 0) (map_same _ _ rs (changed_next U z))
    ∙ sym (row_by_row bit_or max or_step _ _ (hit-digit U (z + 1)) (changed-digit U z) rs 0 0)

pub hit_mask_cons : (U rs : List ℕ) (s z : ℕ) → hit_mask U (s ∷ rs) z ≡ hit U z s * 2 ^ length rs + hit_mask U rs z
unfolding hit_mask row_from
hit_mask_cons U rs s z = row_from_shift (2 * 0 + hit U z s) (map (hit U z) rs) ∙ rw length-map (omega arith)

hit_here : (U : List ℕ) (z s : ℕ) → position U s + z + 1 ≡ length U → hit U z s ≡ 1
unfolding hit
hit_here U z s e = ap digit (eq-eqb (position U s + z + 1) (length U) e)

hit_elsewhere : (U : List ℕ) (z s : ℕ) → (position U s + z + 1 ≡ length U → ⊥) → hit U z s ≡ 0
unfolding hit
hit_elsewhere U z s e = ap digit (ne_eqb (position U s + z + 1) (length U) e)

hit_mask_lt : (U rs : List ℕ) (z : ℕ) → hit_mask U rs z < 2 ^ length rs
unfolding hit_mask
hit_mask_lt U rs z = omega (arith, row_lt (hit U z) (hit-digit U z) rs 0)

-- a turn of the loop that goes through the sources from the last one on
module _ (U rest masks : List ℕ) (s at : ℕ) (place : at ≡ position U s) (so_far : (z : ℕ) → z < 12 → get_or masks z 0 ≡ hit_mask U rest z) where
  pub mask_set : at < length U → (shift m : ℕ) → shift ≡ length U - at - 1 → shift < 12 → length masks ≡ 12 → m ≡ 2 ^ length rest
      → (z : ℕ) → z < 12 → get_or (set masks shift (bit_or (get_or masks shift 0) m)) z 0 ≡ hit_mask U (s ∷ rest) z
  mask_set h shift m e l n p z k =
      ⊎_elim (λ (q : z ≡ shift). here q) (λ q. elsewhere q) (eq-or-ne z shift)
      ∙ sym (hit_mask_cons U rest s z)
    where
      here : z ≡ shift → get_or (set masks shift (bit_or (get_or masks shift 0) m)) z 0 ≡ hit U z s * 2 ^ length rest + hit_mask U rest z
      here q =
          rw (q, get_or-set_same masks shift (bit_or (get_or masks shift 0) m) 0 (omega arith), so_far shift l, p, hit_here U shift s (omega arith), one-mul)
          (rw one-mul at (or_shifted_r 1 (length rest) (hit_mask U rest shift) (hit_mask_lt U rest shift)))

      elsewhere : (z ≡ shift → ⊥) → get_or (set masks shift (bit_or (get_or masks shift 0) m)) z 0 ≡ hit U z s * 2 ^ length rest + hit_mask U rest z
      elsewhere q =
          rw (get_or-set_other masks shift z (bit_or (get_or masks shift 0) m) 0 q, so_far z k, hit_elsewhere U z s (λ r. q (omega arith))) (omega arith)

  pub mask_kept : length U ≤ at → (z : ℕ) → z < 12 → get_or masks z 0 ≡ hit_mask U (s ∷ rest) z
  mask_kept h z k = so_far z k ∙ sym (hit_mask_cons U rest s z ∙ rw (hit_elsewhere U z s (λ e. omega arith)) (omega arith))

-- ---- A loop over the rows, in a turn: U has at most 11 sources, i is a row and r the row of the sources rs.
module _ (U rs : List ℕ) (i r : ℕ) (few : length U ≤ 11) (below : i < 2 ^ length U) (row : r ≡ row_over U rs i) where
  pub zeros : count_trailing_zeros 64 (i + 1) < 12
  zeros = omega (arith, trailing_small (length U) 64 (i + 1) (omega arith) (omega (arith, two-pow-succ (length U))))

  pub next_row : (masks : List ℕ) → ((z : ℕ) → z < 12 → get_or masks z 0 ≡ toggle_mask U rs z) → bit_xor r (get_or masks (count_trailing_zeros 64 (i + 1)) 0) ≡ row_over U rs (i + 1)
  next_row masks m = rw (m (count_trailing_zeros 64 (i + 1)) zeros, row) (sym (row_over-step U rs 64 i (omega arith)))
