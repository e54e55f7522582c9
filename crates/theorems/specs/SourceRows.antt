-- Rows over a support: row i has the digits of i for the bits of its sources, and these are a row of every cone on some of them.
use Rattle.std.specs.Prelude.{◌≡◌, refl, true, false, not, List, [], ◌∷◌, ◌++◌, map, ℕ, zero, suc, ◌+◌, ◌*◌, ◌/◌, ◌%◌, ◌^◌, ◌<◌, eqb, length, take}
use Rattle.std.proofs.Common.{sym, ap, ap₂, ◌∙◌, one-mul, zero-add, one-add, arith, eq-eqb}
use Rattle.std.proofs.Math.Nat.{two-pow-succ, mod-one}
use Rattle.std.proofs.lemmas.Bool.{not-true}
use Rattle.std.proofs.lemmas.List.{length-map}
use Rattle.std.proofs.lemmas.Nat.{mod-pow-add}
use Rattle.laws.specs.Digits.{bit, bit_lt, bit_top_zero, bit_top_one, digits, digits_block}
use Rattle.laws.specs.Tabulate.{tabulate, tabulate_same, tabulate-append, map-tabulate}
use Rattle.laws.specs.Test.{if_both, neither_left, neither_right, both_left, both_right}
use Rattle.rules.specs.Cone.{row_from}
use Rattle.rules.specs.Composition.{assignments, assigned, over_rows}
use Rattle.rules.specs.Network.{member}
use Rattle.rules.specs.NetworkText.{all_different}
use Rattle.theorems.specs.ConeRows.{Bits, row_lt}

-- ---- A row is the number that its digits make.

pub row_from-digits : (x n j : ℕ) → row_from x (digits n j) ≡ x * 2 ^ n + j % 2 ^ n
unfolding row_from digits bit
row_from-digits x zero j = omega (arith, mod-one j)
row_from-digits x (suc n) j = row_from-digits (2 * x + bit n j) n j ∙ next
  where
    next : (2 * x + bit n j) * 2 ^ n + j % 2 ^ n ≡ x * 2 ^ suc n + j % 2 ^ suc n
    next = let m : j % 2 ^ suc n ≡ j / 2 ^ n % 2 * 2 ^ n + j % 2 ^ n = rw one-add at (mod-pow-add j 1 n) in rw (m, two-pow-succ) (omega arith)

-- the assignments, in order, are the digits of the numbers below 2 ^ n
pub assignments_are : (n : ℕ) → assignments n ≡ tabulate (2 ^ n) (digits n)
unfolding assignments digits tabulate
assignments_are zero = refl
assignments_are (suc n) =
    rw (assignments_are n, two-pow-succ, map-tabulate, map-tabulate, tabulate-append)
    (ap₂ {C = List (List ℕ)} (λ s t. s ++ t)
    (tabulate_same (2 ^ n) (λ i. 0 ∷ digits n i) (digits (suc n)) (λ i h. lower i h))
    (tabulate_same (2 ^ n) (λ i. 1 ∷ digits n i) (λ i. digits (suc n) (2 ^ n + i)) (λ i h. upper i h)))
  where
    lower : (i : ℕ) → i < 2 ^ n → 0 ∷ digits n i ≡ bit n i ∷ digits n i
    lower i h = rw (bit_top_zero n i h)

    upper : (i : ℕ) → i < 2 ^ n → 1 ∷ digits n i ≡ bit n (2 ^ n + i) ∷ digits n (2 ^ n + i)
    upper i h = rw (bit_top_one n i h) (ap {B = List ℕ} (λ r. 1 ∷ r) (sym (rw (one-mul, zero-add) at (digits_block n 0 1 i))))

pub over_rows_are : (U : List ℕ) (f : (ℕ → ℕ) → ℕ) → over_rows U f ≡ tabulate (2 ^ length U) (λ i. f (assigned U (digits (length U) i)))
unfolding over_rows
over_rows_are U f = rw (assignments_are (length U)) (map-tabulate _ (2 ^ length U) (digits (length U)))

-- ---- The row of a cone on the sources rs, at row i over the support U.

unfoldable pub row_over : List ℕ → List ℕ → ℕ → ℕ
row_over U rs i = row_from 0 (map (assigned U (digits (length U) i)) rs)

pub assigned-digit : (U : List ℕ) (i s : ℕ) → assigned U (digits (length U) i) s < 2
unfolding assigned digits
assigned-digit [] i s = omega arith
assigned-digit (m ∷ U) i s = if_both (λ d. d < 2) (eqb m s) (bit_lt (length U) i) (assigned-digit U i s)

pub bits-digits : (n i : ℕ) → Bits (digits n i)
unfolding digits Bits
bits-digits zero i = tt
bits-digits (suc n) i = (omega (arith, bit_lt n i), bits-digits n i)

pub bits-assigned : (U : List ℕ) (i : ℕ) (ns : List ℕ) → Bits (map (assigned U (digits (length U) i)) ns)
unfolding Bits
bits-assigned U i [] = tt
bits-assigned U i (n ∷ ns) = (omega (arith, assigned-digit U i n), bits-assigned U i ns)

pub row_over_lt : (U rs : List ℕ) (i : ℕ) → row_over U rs i < 2 ^ length rs
unfolding row_over
row_over_lt U rs i = rw length-map at (row_lt (map (assigned U (digits (length U) i)) rs) (bits-assigned U i rs))

-- ---- The sources of U itself, and more after them, have the digits in turn.

-- a source that is not m has the digit that it has without m
other-map : (m b : ℕ) (U bs rs : List ℕ) → member m rs ≡ false → map (assigned (m ∷ U) (b ∷ bs)) rs ≡ map (assigned U bs) rs
unfolding assigned member
other-map m b U bs [] h = refl
other-map m b U bs (r ∷ rs) h = rw (neither_left (eqb m r) (member m rs) h, other-map m b U bs rs (neither_right (eqb m r) (member m rs) h))

pub own_digits : (ls new bs : List ℕ) → all_different ls ≡ true → length bs ≡ length ls + length new → map (assigned (ls ++ new) bs) ls ≡ take (length ls) bs
unfolding all_different assigned
own_digits [] new bs h e = refl
own_digits (m ∷ ls) new [] h e = absurd (omega arith)
own_digits (m ∷ ls) new (b ∷ bs) h e =
    rw (eq-eqb m m refl, other-map m b (ls ++ new) bs ls (not-true (member m ls) (both_left (not (member m ls)) (all_different ls) h)), own_digits ls new bs (both_right (not (member m ls)) (all_different ls) h) (omega arith))
