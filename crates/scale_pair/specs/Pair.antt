-- What a scale pair gives, as the code holds it.
use Rattle.std.specs.Prelude.{◌≡◌, refl, ◌&&◌, ℕ, zero, suc, ◌+◌, ◌≤◌, ◌<◌, leb, Option, Some, None, ℤ, negsuc, neg_ℤ, ◌-ℤ◌, ◌*ℤ◌, set, take, ◌≤ℤ◌}
use Rattle.std.proofs.Math.Path.{sym, ap, subst}
use Rattle.std.proofs.Common.{ap₂, ◌∙◌, div-le_self, div-one, arith}
use mathlib.Core.List.{List, [], ◌∷◌, zip_with}
use Rattle.std.proofs.Math.IntN.{pos, nat_abs}
use Rattle.std.proofs.Math.Logic.{⊎_elim}
use Rattle.std.proofs.Math.ListN.{length, get_or, get_or-eq_default}
use Rattle.std.specs.Int.Signed.{quot_z}
use Rattle.laws.specs.Integer.{abs_add, abs_mul_le, abs_quot}
use Rattle.laws.specs.Front.{taken_step}
use Rattle.std.proofs.Math.Seq.{take-length}
use Rattle.laws.specs.Test.{if◌then◌otherwise◌, lt_or_le}
use Rattle.rules.specs.declared.Settings.{Settings}
use Rattle.rules.specs.Cone.{linear_table, within_norm}
use Rattle.rules.specs.Scale.{divisor, quotients, normalised, is_scale_pair}
use Rattle.rules.specs.Span.{least, span}
use Rattle.scale.specs.Limits.{Within}
use Rattle.scale.specs.Norm.{norm-first}
use Rattle.linear.specs.Span.{within_total}
use Rattle.theorems.specs.LinearTables.{total}
use Rattle.theorems.specs.Weights.{weighted_norm}
use Rattle.compose.specs.declared.basis.Basis.{Basis}
use Rattle.compose.specs.Basis.{lefts, rights, lefts_long, rights_long}
use Rattle.scale_pair.specs.declared.pair.Pair.{Pair}
use Rattle.merged_rows.specs.MergedIntegers.{zip_with_length, zip_with_at}
use Rattle.merged_rows.specs.MergedValues.{combined, merged_value}
use Rattle.theorems.specs.Normalised.{normalised-length}

-- Two rows of coefficients over the same sources, each of a cone within the limits.
pub record Rows (left right : List ℤ) : Type 0 where
  pub few : length left ≤ 11
  pub even : length right ≡ length left
  pub lefts : total left ≤ 31
  pub rights : total right ≤ 31

-- Those of a basis are such rows.
pub basis_rows : (b : Basis) → Rows (lefts b) (rights b)
basis_rows b = record { few = rw (lefts_long b) b.few; even = rights_long b ∙ sym (lefts_long b); lefts = b.narrow_left; rights = b.narrow_right }

-- Scales within the spans.
pub record Scaling (a b : ℤ) : Type 0 where
  pub first : nat_abs a ≤ 32
  pub second : nat_abs b ≤ 32

-- a·l + b·r for each source, and normalised.
unfoldable pub merged_row : ℤ → ℤ → List ℤ → List ℤ → List ℤ
merged_row a b left right = zip_with (combined a b) left right

unfoldable pub merged : ℤ → ℤ → List ℤ → List ℤ → List ℤ
merged a b left right = normalised (merged_row a b left right)

-- The least value, the span and the norm by weights of normalised coefficients, where they are within the limits.
unfoldable pub measures : List ℕ → ℤ → ℤ → ℤ → List ℤ → Pair
measures ws a b d cs =
    record {
      a = a;
      b = b;
      divisor = d;
      low = least (linear_table cs);
      span = span (linear_table cs);
      norm = weighted_norm ws cs;
    }

unfoldable pub weighed : Settings → List ℕ → ℤ → ℤ → ℤ → List ℤ → Option Pair
weighed s ws a b d cs =
    if leb (span (linear_table cs)) s.m && within_norm s (weighted_norm ws cs) then Some (measures ws a b d cs) otherwise None

unfoldable pub measured : Settings → List ℕ → ℤ → ℤ → List ℤ → Option Pair
measured s ws a b cs = weighed s ws a b (divisor cs) (normalised cs)

unfoldable pub pair_of : Settings → List ℕ → List ℤ → List ℤ → ℤ → ℤ → Option Pair
pair_of s ws left right a b = if is_scale_pair a b then measured s ws a b (merged_row a b left right) otherwise None

-- Where a row's value stands in the table.
unfoldable pub level_of : Pair → ℤ → ℤ → ℕ
level_of c x y = nat_abs (merged_value c.a c.b c.divisor x y -ℤ c.low)

-- The row's value is one of the pair's.
pub record Level (c : Pair) (x y : ℤ) : Type 0 where
  pub scaling : Scaling c.a c.b
  pub x_small : nat_abs x ≤ 31
  pub y_small : nat_abs y ≤ 31
  pub divides : 0 < nat_abs c.divisor
  pub low_small : nat_abs c.low ≤ 31
  pub above : c.low ≤ℤ merged_value c.a c.b c.divisor x y

-- ---- division by 1
pub quot_one : (z : ℤ) → quot_z z (pos 1) ≡ z
quot_one (pos a) = ap pos (div-one a)
quot_one (negsuc a) = ap (λ n. neg_ℤ (pos n)) (div-one (suc a))

pub quotients-one : (l : List ℤ) → quotients (pos 1) l ≡ l
unfolding quotients
quotients-one [] = refl
quotients-one (x ∷ l) = ap₂ {C = List ℤ} (λ v r. v ∷ r) (quot_one x) (quotients-one l)

-- ---- laws: sizes
combined-small : (a b x y : ℤ) → nat_abs a ≤ 32 → nat_abs b ≤ 32 → nat_abs x ≤ 31 → nat_abs y ≤ 31 → nat_abs (combined a b x y) ≤ 1984
unfolding combined
combined-small a b x y h k l m = omega (arith, abs_add (a *ℤ x) (b *ℤ y), abs_mul_le a x h l, abs_mul_le b y k m)

module _ (left right : List ℤ) (r : Rows left right) where
  pub left_small : Within 31 left
  left_small i = omega (arith, r.lefts, within_total left i)

  pub right_small : Within 31 right
  right_small i = omega (arith, r.rights, within_total right i)

  pub row_length : (a b : ℤ) → length (merged_row a b left right) ≡ length left
  unfolding merged_row
  row_length a b = zip_with_length (combined a b) left right r.even

  pub row_small : (a b : ℤ) → Scaling a b → Within 1984 (merged_row a b left right)
  unfolding merged_row
  row_small a b s i =
      ⊎_elim
      (λ (h : i < length left). subst (λ z. nat_abs z ≤ 1984) (sym (row_at i h)) (combined-small a b _ _ s.first s.second (left_small i) (right_small i)))
      (λ (h : length left ≤ i). subst (λ z. nat_abs z ≤ 1984) (sym (get_or-eq_default (merged_row a b left right) (pos 0) {n = i} (rw (row_length a b) h))) (omega arith))
      (lt_or_le i (length left))
    where
      row_at : (j : ℕ) → j < length left → get_or (merged_row a b left right) j (pos 0) ≡ combined a b (get_or left j (pos 0)) (get_or right j (pos 0))
      row_at j h = zip_with_at (combined a b) left right j (pos 0) (pos 0) (pos 0) r.even h

  -- a turn of the loop that merges the rows, and all of them
  pub row_turn : (a b x : ℤ) (t : List ℤ) (i : ℕ) → i < length left → length t ≡ 11 → x ≡ combined a b (get_or left i (pos 0)) (get_or right i (pos 0))
      → take i t ≡ take i (merged_row a b left right) → take (i + 1) (set t i x) ≡ take (i + 1) (merged_row a b left right)
  unfolding merged_row
  row_turn a b x t i h l e inv =
      taken_step (zip_with (combined a b) left right) t i x (pos 0) inv
      (e ∙ sym (zip_with_at (combined a b) left right i (pos 0) (pos 0) (pos 0) r.even h))
      (omega (arith, row_length a b)) (omega (arith, r.few))

  pub row_all : (a b : ℤ) → take (length left) (merged_row a b left right) ≡ merged_row a b left right
  row_all a b = ap (λ n. take n (merged_row a b left right)) (sym (row_length a b)) ∙ take-length (merged_row a b left right)

pub quotient_small : (v d : ℤ) → nat_abs v ≤ 1984 → nat_abs (quot_z v d) ≤ 1984
quotient_small v d h = rw (abs_quot v d) (omega (arith, div-le_self (nat_abs v) (nat_abs d)))

pub quotients-small : (d : ℤ) (l : List ℤ) → Within 1984 l → Within 1984 (quotients d l)
unfolding quotients
quotients-small d [] w i = w i
quotients-small d (x ∷ l) w zero = quotient_small x d (w 0)
quotients-small d (x ∷ l) w (suc i) = quotients-small d l (λ j. w (suc j)) i

-- ---- normalising
pub undivided : (cs : List ℤ) → divisor cs ≡ pos 1 → quotients (divisor cs) cs ≡ cs
undivided cs e = ap (λ d. quotients d cs) e ∙ quotients-one cs

pub normalised_small : (cs : List ℤ) → Within 1984 cs → Within 1984 (normalised cs)
unfolding normalised
normalised_small cs w = quotients-small (divisor cs) cs w

-- the sizes of the merged coefficients, and of the normalised ones
pub ruleset sizes = (row_small, row_length, normalised_small, normalised-length)

pub merged-length : (left right : List ℤ) → Rows left right → (a b : ℤ) → length (merged a b left right) ≡ length left
unfolding merged
merged-length left right r a b = normalised-length (merged_row a b left right) ∙ row_length left right r a b

-- weights behind those of the sources do not matter
pub pair_weights : (s : Settings) (ws : List ℕ) (left right : List ℤ) → Rows left right → (a b : ℤ)
    → pair_of s ws left right a b ≡ pair_of s (take (length left) ws) left right a b
unfolding pair_of measured weighed measures merged
pair_weights s ws left right r a b =
    let first : weighted_norm (take (length left) ws) (merged a b left right) ≡ weighted_norm ws (merged a b left right) =
    ap (λ n. weighted_norm (take n ws) (merged a b left right)) (sym (merged-length left right r a b)) ∙ norm-first ws (merged a b left right) in
    rw first
