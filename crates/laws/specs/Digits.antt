-- The binary digits of a number: one of them, all of them, and what one more does to each.
use Rattle.std.specs.Prelude.{◌≡◌, refl, Bool, true, false, List, [], ◌∷◌, ◌++◌, ℕ, zero, suc, ◌+◌, ◌-◌, ◌*◌, ◌/◌, ◌%◌, ◌^◌, ◌<◌, ◌≤◌, leb, length, get_or}
use Rattle.std.proofs.Common.{sym, ap, ap₂, ◌∙◌, div-one, mod-lt, not-suc-le-zero, le_of_suc-le-suc, pow-suc, mul_comm, mul_assoc, one-mul, add_comm, zero-add, suc-add, arith, lit<, shr-shr, pow-add}
use Rattle.std.proofs.Math.Nat.{two-pow-succ, div-div-eq-div-mul, div-eq_of_lt}
use Rattle.std.specs.Int.Bits.{differ, block_half, block_odd}
use Rattle.std.specs.Int.Count.{count_trailing_zeros, under}
use Rattle.std.proofs.Math.Dec.{leb-zero, leb-suc-suc, leb-suc-zero}
use Rattle.std.proofs.Math.Pow.{high}

-- the digit that stands for 2 ^ k
unfoldable pub bit : ℕ → ℕ → ℕ
bit k i = i / 2 ^ k % 2

pub bit_lt : (k i : ℕ) → bit k i < 2
unfolding bit
bit_lt k i = mod-lt (i / 2 ^ k) (lit< tt)

pub bit_zero : (i : ℕ) → bit 0 i ≡ i % 2
unfolding bit
bit_zero i = rw div-one

pub bit_suc : (k i : ℕ) → bit (suc k) i ≡ bit k (i / 2)
unfolding bit
bit_suc k i = rw (div-div-eq-div-mul, ← mul_comm, ← pow-suc)

-- a test as a digit
abbrev pub digit : Bool → ℕ
digit true = 1
digit false = 0

pub digit_lt : (t : Bool) → digit t < 2
digit_lt true = omega arith
digit_lt false = omega arith

-- One more changes the digits up to the trailing zeros of the sum. w is the machine's width.
pub bit-step : (k w i : ℕ) → k ≤ w → bit k (i + 1) ≡ differ (bit k i) (digit (leb k (count_trailing_zeros w (i + 1))))
unfolding count_trailing_zeros
bit-step zero w i h = rw (bit_zero (i + 1), bit_zero i, leb-zero) (by (i % 2) (mod-lt i (lit< tt)) (omega arith))
  where
    by : (d : ℕ) → d < 2 → (i + 1) % 2 ≡ 1 - d → (i + 1) % 2 ≡ differ d 1
    by zero l e = e
    by (suc zero) l e = e
    by (suc (suc d)) l e = absurd (omega arith)
bit-step (suc k) zero i h = absurd (not-suc-le-zero h)
bit-step (suc k) (suc w) i h = rw (bit_suc k (i + 1), bit_suc k i) (by (bit-step k w (i / 2) (le_of_suc-le-suc h)) (i % 2) refl (mod-lt i (lit< tt)))
  where
    same : (x : ℕ) → x ≡ differ x 0
    same zero = refl
    same (suc x) = refl

    by : bit k (i / 2 + 1) ≡ differ (bit k (i / 2)) (digit (leb k (count_trailing_zeros w (i / 2 + 1))))
        → (d : ℕ) → i % 2 ≡ d → d < 2
        → bit k ((i + 1) / 2) ≡ differ (bit k (i / 2)) (digit (leb (suc k) (under ((i + 1) % 2) (count_trailing_zeros w ((i + 1) / 2)))))
    by up zero e l =
        let odd : (i + 1) % 2 ≡ 1 = omega arith in
        let half : (i + 1) / 2 ≡ i / 2 = omega arith in
        rw (odd, half, leb-suc-zero) (same (bit k (i / 2)))
    by up (suc zero) e l =
        let even : (i + 1) % 2 ≡ 0 = omega arith in
        let half : (i + 1) / 2 ≡ i / 2 + 1 = omega arith in
        rw (even, half, leb-suc-suc) up
    by up (suc (suc d)) e l = absurd (omega arith)

-- and a number below 2 ^ (n + 1) that is not 0 has no more than n of them
pub trailing_small : (n w m : ℕ) → 0 < m → m < 2 ^ suc n → count_trailing_zeros w m ≤ n
unfolding count_trailing_zeros
trailing_small n zero m h l = omega arith
trailing_small zero (suc w) m h l = let one : m % 2 ≡ 1 = omega arith in rw one (omega arith)
trailing_small (suc n) (suc w) m h l =
    by (λ p. trailing_small n w (m / 2) p (omega (arith, two-pow-succ (suc n)))) (m % 2) refl (mod-lt m (lit< tt))
  where
    by : (0 < m / 2 → count_trailing_zeros w (m / 2) ≤ n) → (d : ℕ) → m % 2 ≡ d → d < 2 → under (m % 2) (count_trailing_zeros w (m / 2)) ≤ suc n
    by up zero e k = rw e (let r = up (omega arith) in omega arith)
    by up (suc zero) e k = rw e (omega arith)
    by up (suc (suc d)) e k = absurd (omega arith)

-- the last n digits, the highest first
unfoldable pub digits : ℕ → ℕ → List ℕ
digits zero i = []
digits (suc n) i = bit n i ∷ digits n i

pub digits-length : (n i : ℕ) → length (digits n i) ≡ n
unfolding digits
digits-length zero i = refl
digits-length (suc n) i = ap suc (digits-length n i)

pub digit_at : (n i k : ℕ) → k < n → get_or (digits n i) k 0 ≡ bit (n - 1 - k) i
unfolding digits
digit_at zero i k h = absurd (not-suc-le-zero h)
digit_at (suc n) i zero h = ap (λ j. bit j i) (omega arith)
digit_at (suc n) i (suc k) h = digit_at n i k (le_of_suc-le-suc h) ∙ ap (λ j. bit j i) (omega arith)

-- the upper digits are those of the quotient
pub digits-upper : (n k i : ℕ) → digits (n + k) i ≡ digits n (i / 2 ^ k) ++ digits k i
unfolding digits bit
digits-upper zero k i = rw zero-add
digits-upper (suc n) k i =
    rw (suc-add, ← digits-upper n k i) (ap {B = List ℕ} (λ d. d % 2 ∷ digits (n + k) i) (sym (shr-shr i k n ∙ ap (λ e. i / 2 ^ e) (add_comm k n))))

-- a multiple of a larger power changes no digit
bit_block : (a k i : ℕ) → bit k (a * 2 ^ suc k + i) ≡ bit k i
bit_block a zero i = rw (bit_zero (a * 2 ^ 1 + i), bit_zero i) (block_odd a 0 i)
bit_block a (suc k) i = rw (bit_suc k (a * 2 ^ suc (suc k) + i), bit_suc k i, block_half) (bit_block a k (i / 2))

pub digits_block : (n d a i : ℕ) → digits n (a * 2 ^ (d + n) + i) ≡ digits n i
unfolding digits
digits_block zero d a i = refl
digits_block (suc n) d a i = ap₂ {C = List ℕ} (λ b r. b ∷ r) first (ap (λ e. digits n (a * 2 ^ e + i)) (omega arith) ∙ digits_block n (suc d) a i)
  where
    first : bit n (a * 2 ^ (d + suc n) + i) ≡ bit n i
    first = rw (pow-add, ← mul_assoc) (bit_block (a * 2 ^ d) n i)

-- the digit above all others
pub bit_top_zero : (n i : ℕ) → i < 2 ^ n → bit n i ≡ 0
unfolding bit
bit_top_zero n i h = rw (div-eq_of_lt h)

pub bit_top_one : (n i : ℕ) → i < 2 ^ n → bit n (2 ^ n + i) ≡ 1
unfolding bit
bit_top_one n i h = ap (λ q. q % 2) (rw one-mul at (high 1 n h))
