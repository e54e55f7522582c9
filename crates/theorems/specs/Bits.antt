-- Lists of bits: each entry is 0 or 1.
use Rattle.std.specs.Prelude.{List, [], ◌∷◌, map, ℕ, zero, suc, ◌≤◌, ◌<◌, T, leb, eqb, length, get_or}
use Prim.Native.Nat.compare
use Rattle.std.proofs.Common.{arith, le-leb, eqb→eq, leb→le, le→leb}
use Rattle.laws.specs.Test.{and_left, and_right, and_both, eqb_of}
use Rattle.rules.specs.Runs.{all_bits, bits_for}

pub bit_at : (bits : List ℕ) (i : ℕ) → T (all_bits bits) → get_or bits i 0 ≤ 1
unfolding all_bits
bit_at [] i t = omega arith
bit_at (b ∷ bits) zero t = leb→le b 1 (and_left (leb b 1) (all_bits bits) t)
bit_at (b ∷ bits) (suc i) t = bit_at bits i (and_right (leb b 1) (all_bits bits) t)

pub all-bits_nil : T (all_bits [])
unfolding all_bits
all-bits_nil = tt

pub all-bits_cons : (b : ℕ) (l : List ℕ) → b ≤ 1 → T (all_bits l) → T (all_bits (b ∷ l))
unfolding all_bits
all-bits_cons b l h t = and_both (leb b 1) (all_bits l) (le→leb b 1 h) t

pub all-bits_of : (l : List ℕ) → ((i : ℕ) → i < length l → get_or l i 0 ≤ 1) → T (all_bits l)
unfolding all_bits
all-bits_of [] h = tt
all-bits_of (b ∷ l) h = all-bits_cons b l (h 0 (omega arith)) (all-bits_of l (λ i k. h (suc i) (omega arith)))

pub all-bits : (n : ℕ) (bits : List ℕ) → T (bits_for n bits) → T (all_bits bits)
unfolding bits_for
all-bits n bits b = and_right (eqb (length bits) n) (all_bits bits) b

pub map-bits : {A : Type 0} (f : A → ℕ) → ((a : A) → f a ≤ 1) → (l : List A) → T (all_bits (map f l))
unfolding all_bits
map-bits f h [] = tt
map-bits f h (a ∷ l) = rw (le-leb (f a) 1 (h a)) (map-bits f h l)

-- ---- A bit for each of n sources.

pub bits_nil : T (bits_for 0 [])
unfolding bits_for all_bits
bits_nil = tt

pub bits_cons : (n b : ℕ) (bits : List ℕ) → b ≤ 1 → T (bits_for n bits) → T (bits_for (suc n) (b ∷ bits))
unfolding bits_for all_bits
bits_cons n b bits h t = rw (compare.suc-suc, le-leb b 1 h) t

pub no_bits : (n : ℕ) → T (bits_for (suc n) []) → ⊥
unfolding bits_for
no_bits n t = let e = eqb→eq 0 (suc n) (and_left (eqb 0 (suc n)) _ t) in omega arith

pub bits-first : (n b : ℕ) (bits : List ℕ) → T (bits_for (suc n) (b ∷ bits)) → b ≤ 1
unfolding bits_for all_bits
bits-first n b bits t = leb→le b 1 (and_left (leb b 1) (all_bits bits) (and_right (eqb (suc (length bits)) (suc n)) _ t))

pub bits-rest : (n b : ℕ) (bits : List ℕ) → T (bits_for (suc n) (b ∷ bits)) → T (bits_for n bits)
unfolding bits_for all_bits
bits-rest n b bits t =
    let e = eqb→eq (suc (length bits)) (suc n) (and_left (eqb (suc (length bits)) (suc n)) _ t) in
    and_both (eqb (length bits) n) (all_bits bits) (eqb_of (length bits) n (omega arith))
    (and_right (leb b 1) (all_bits bits) (and_right (eqb (suc (length bits)) (suc n)) _ t))

-- what holds of all that begin with 0 and of all that begin with 1 holds of all
pub bits-cases : (Q : List ℕ → Type 0) (n : ℕ) → ((bits : List ℕ) → T (bits_for n bits) → Q (0 ∷ bits)) → ((bits : List ℕ) → T (bits_for n bits) → Q (1 ∷ bits))
    → (bits : List ℕ) → T (bits_for (suc n) bits) → Q bits
bits-cases Q n f g [] t = absurd (no_bits n t)
bits-cases Q n f g (zero ∷ bits) t = f bits (bits-rest n 0 bits t)
bits-cases Q n f g (suc zero ∷ bits) t = g bits (bits-rest n 1 bits t)
bits-cases Q n f g (suc (suc b) ∷ bits) t = absurd (omega (arith, bits-first n (suc (suc b)) bits t))

pub bits_none : (Q : List ℕ → Type 0) → Q [] → (bits : List ℕ) → T (bits_for 0 bits) → Q bits
unfolding bits_for
bits_none Q q [] t = q
bits_none Q q (b ∷ bits) t = absurd (let e = eqb→eq (suc (length bits)) 0 (and_left (eqb (suc (length bits)) 0) _ t) in omega arith)
