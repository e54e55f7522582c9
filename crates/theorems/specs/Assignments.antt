-- All assignments of n sources: each has a bit for each of them, and how many meet a test.
use Rattle.std.specs.Prelude.{◌≡◌, refl, Bool, true, false, cond, List, [], ◌∷◌, map, ℕ, zero, suc, ◌+◌, ◌*◌, ◌≤◌, ◌^◌, T, All, count_by}
use Rattle.std.proofs.Common.{ap₂, ◌∙◌, arith}
use Rattle.std.proofs.Math.Nat.{two-pow-succ}
use Rattle.std.proofs.lemmas.List.Elements.{All-nil, All-cons, All-append, All-map}
use Rattle.std.proofs.lemmas.List.Folds.{fold-map}
use Rattle.std.proofs.lemmas.List.Sums.{sum_by-append, count_by-le-length}
use Rattle.rules.specs.Composition.{assignments}
use Rattle.rules.specs.Runs.{bits_for}
use Rattle.theorems.specs.Bits.{bits_nil, bits_cons}
use Rattle.theorems.specs.ConeRows.{assignments-length}

pub assignments_bits : (n : ℕ) → All (λ bits. T (bits_for n bits)) (assignments n)
unfolding assignments
assignments_bits zero = All-cons (λ bits. T (bits_for 0 bits)) [] [] bits_nil (All-nil (λ bits. T (bits_for 0 bits)))
assignments_bits (suc n) =
    All-append (λ bits. T (bits_for (suc n) bits)) (map (λ (bits : List ℕ). 0 ∷ bits) (assignments n)) (map (λ (bits : List ℕ). 1 ∷ bits) (assignments n))
    (begun 0 (omega arith) (assignments_bits n)) (begun 1 (omega arith) (assignments_bits n))
  where
    begun : (b : ℕ) → b ≤ 1 → All (λ bits. T (bits_for n bits)) (assignments n) → All (λ bits. T (bits_for (suc n) bits)) (map (λ (bits : List ℕ). b ∷ bits) (assignments n))
    begun b h r = All-map (λ bits. T (bits_for (suc n) bits)) (λ (bits : List ℕ). b ∷ bits) (assignments n) (λ k d l. bits_cons n b _ h (r k d l))

-- those that begin with 0, and those that begin with 1
pub count_suc : (n : ℕ) (f : List ℕ → Bool)
    → count_by f (assignments (suc n)) ≡ count_by (λ bits. f (0 ∷ bits)) (assignments n) + count_by (λ bits. f (1 ∷ bits)) (assignments n)
unfolding assignments
count_suc n f =
    sum_by-append (λ bits. cond (f bits) 1 0) (map (λ (bits : List ℕ). 0 ∷ bits) (assignments n)) (map (λ (bits : List ℕ). 1 ∷ bits) (assignments n))
    ∙ ap₂ (λ a b. a + b) (begun 0) (begun 1)
  where
    begun : (b : ℕ) → count_by f (map (λ (bits : List ℕ). b ∷ bits) (assignments n)) ≡ count_by (λ bits. f (b ∷ bits)) (assignments n)
    begun b = fold-map (λ a bits. a + cond (f bits) 1 0) (λ (bits : List ℕ). b ∷ bits) 0 (assignments n)

-- a test that looks at nothing
pub count_fixed : (n : ℕ) (b : Bool) → count_by (λ bits. b) (assignments n) ≡ 2 ^ n * cond b 1 0
unfolding assignments
count_fixed zero true = refl
count_fixed zero false = refl
count_fixed (suc n) b = count_suc n (λ bits. b) ∙ rw (count_fixed n b, two-pow-succ) (omega arith)

pub at_most_all : (n : ℕ) (f : List ℕ → Bool) → count_by f (assignments n) ≤ 2 ^ n
at_most_all n f = omega (arith, count_by-le-length f (assignments n), assignments-length n)
