-- The first assignment that meets a test: as a number with the first source the highest bit, it is the least that does.
use Rattle.std.specs.Prelude.{◌≡◌, Bool, true, false, List, [], ◌∷◌, map, ◌↔◌, ℕ, zero, suc, ◌+◌, ◌*◌, ◌≤◌, ◌<◌, ◌^◌, T, eqb, length}
use Rattle.std.proofs.Math.Path.{refl, ap, subst}
use Rattle.std.proofs.Common.{sym, ap₂, ◌∙◌, true≢false, arith, eqb→eq}
use Rattle.std.proofs.Math.Option
use Rattle.std.proofs.Math.Option.{Option, none, some}
use Rattle.std.proofs.Math.Nat.{two-pow-succ}
use Rattle.laws.specs.Select.{first_of, or_else, first-append, first-map}
use Rattle.laws.specs.Test.{if◌then◌otherwise◌, and_left}
use Rattle.rules.specs.Cone.{row_from}
use Rattle.rules.specs.Composition.{assignments}
use Rattle.rules.specs.Runs.{all_bits, bits_for}
use Rattle.theorems.specs.Bits.{bits_nil, bits_cons, bits-cases, bits_none}
use Rattle.theorems.specs.ConeRows.{row_first}

-- Of the assignments of n sources that meet the test, the one of the lowest number.
pub record FirstFor (n : ℕ) (f : List ℕ → Bool) (bits : List ℕ) : Type 0 where
  pub is_for : T (bits_for n bits)
  pub meets : f bits ≡ true
  pub lowest : (other : List ℕ) → T (bits_for n other) → f other ≡ true → row_from 0 bits ≤ row_from 0 other

-- No assignment meets it.
abbrev pub NoneFor : ℕ → (List ℕ → Bool) → Type 0
NoneFor n f = (bits : List ℕ) → T (bits_for n bits) → f bits ≡ false

-- ---- The number of an assignment.

row_cons : (n b : ℕ) (bits : List ℕ) → T (bits_for n bits) → row_from 0 (b ∷ bits) ≡ b * 2 ^ n + row_from 0 bits
unfolding bits_for
row_cons n b bits t =
    let e = eqb→eq (length bits) n (and_left (eqb (length bits) n) (all_bits bits) t) in
    row_first b bits ∙ ap (λ k. b * 2 ^ k + row_from 0 bits) e

row_lt : (n : ℕ) (bits : List ℕ) → T (bits_for n bits) → row_from 0 bits < 2 ^ n
unfolding row_from
row_lt zero bits t = bits_none (λ l. row_from 0 l < 1) (omega arith) bits t
row_lt (suc n) bits t =
    bits-cases (λ l. row_from 0 l < 2 ^ suc n) n
    (λ l u. rw (row_cons n 0 l u, two-pow-succ) (omega (arith, row_lt n l u)))
    (λ l u. rw (row_cons n 1 l u, two-pow-succ) (omega (arith, row_lt n l u)))
    bits t

row_same : (n : ℕ) (s t : List ℕ) → T (bits_for n s) → T (bits_for n t) → row_from 0 s ≡ row_from 0 t → s ≡ t
row_same zero s t a b = bits_none (λ l. row_from 0 l ≡ row_from 0 t → l ≡ t) (bits_none (λ l. row_from 0 [] ≡ row_from 0 l → [] ≡ l) (λ e. refl) t b) s a
row_same (suc n) s t a b =
    bits-cases (λ l. row_from 0 l ≡ row_from 0 t → l ≡ t) n
    (λ l u. bits-cases (λ m. row_from 0 (0 ∷ l) ≡ row_from 0 m → 0 ∷ l ≡ m) n
    (λ m v e. ap {B = List ℕ} (λ r. 0 ∷ r) (row_same n l m u v (omega (arith, row_cons n 0 l u, row_cons n 0 m v))))
    (λ m v e. absurd (omega (arith, row_cons n 0 l u, row_cons n 1 m v, row_lt n l u))) t b)
    (λ l u. bits-cases (λ m. row_from 0 (1 ∷ l) ≡ row_from 0 m → 1 ∷ l ≡ m) n
    (λ m v e. absurd (omega (arith, row_cons n 1 l u, row_cons n 0 m v, row_lt n m v)))
    (λ m v e. ap {B = List ℕ} (λ r. 1 ∷ r) (row_same n l m u v (omega (arith, row_cons n 1 l u, row_cons n 1 m v)))) t b)
    s a

-- ---- The first assignment.

first_suc : (n : ℕ) (f : List ℕ → Bool)
    → first_of f (assignments (suc n))
    ≡ or_else (Option.map (λ (bits : List ℕ). 0 ∷ bits) (first_of (λ bits. f (0 ∷ bits)) (assignments n)))
    (Option.map (λ (bits : List ℕ). 1 ∷ bits) (first_of (λ bits. f (1 ∷ bits)) (assignments n)))
unfolding assignments
first_suc n f =
    first-append f (map (λ (bits : List ℕ). 0 ∷ bits) (assignments n)) (map (λ (bits : List ℕ). 1 ∷ bits) (assignments n))
    ∙ ap₂ or_else (first-map f (λ (bits : List ℕ). 0 ∷ bits) (assignments n)) (first-map f (λ (bits : List ℕ). 1 ∷ bits) (assignments n))

Outcome : ℕ → (List ℕ → Bool) → Option (List ℕ) → Type 0
Outcome n f none = NoneFor n f
Outcome n f (some bits) = FirstFor n f bits

-- those that begin with 0 come first
first-half : (n : ℕ) (f : List ℕ → Bool) (a b : Option (List ℕ)) → Outcome n (λ bits. f (0 ∷ bits)) a → Outcome n (λ bits. f (1 ∷ bits)) b
    → Outcome (suc n) f (or_else (Option.map (λ (bits : List ℕ). 0 ∷ bits) a) (Option.map (λ (bits : List ℕ). 1 ∷ bits) b))
unfolding Outcome or_else
first-half n f none none h k = bits-cases (λ l. f l ≡ false) n h k
first-half n f none (some bits) h k =
    record {
      is_for = bits_cons n 1 bits (omega arith) k.is_for;
      meets = k.meets;
      lowest = bits-cases (λ l. f l ≡ true → row_from 0 (1 ∷ bits) ≤ row_from 0 l) n
          (λ l u e. absurd (true≢false (sym e ∙ h l u)))
          (λ l u e. omega (arith, row_cons n 1 bits k.is_for, row_cons n 1 l u, k.lowest l u e));
    }
first-half n f (some bits) b h k =
    record {
      is_for = bits_cons n 0 bits (omega arith) h.is_for;
      meets = h.meets;
      lowest = bits-cases (λ l. f l ≡ true → row_from 0 (0 ∷ bits) ≤ row_from 0 l) n
          (λ l u e. omega (arith, row_cons n 0 bits h.is_for, row_cons n 0 l u, h.lowest l u e))
          (λ l u e. omega (arith, row_cons n 0 bits h.is_for, row_cons n 1 l u, row_lt n bits h.is_for));
    }

outcome : (n : ℕ) (f : List ℕ → Bool) → Outcome n f (first_of f (assignments n))
unfolding Outcome first_of assignments
outcome zero f = by (f []) refl
  where
    by : (b : Bool) → f [] ≡ b → Outcome 0 f (if b then some [] otherwise none)
    by true e = record { is_for = bits_nil; meets = e; lowest = bits_none (λ l. f l ≡ true → row_from 0 [] ≤ row_from 0 l) (λ _. omega arith) }
    by false e = bits_none (λ l. f l ≡ false) e
outcome (suc n) f =
    subst (Outcome (suc n) f) (sym (first_suc n f))
    (first-half n f (first_of (λ bits. f (0 ∷ bits)) (assignments n)) (first_of (λ bits. f (1 ∷ bits)) (assignments n))
    (outcome n (λ bits. f (0 ∷ bits))) (outcome n (λ bits. f (1 ∷ bits))))

module _ (n : ℕ) (f : List ℕ → Bool) where
  no_both : (bits : List ℕ) → FirstFor n f bits → NoneFor n f → ⊥
  no_both bits h k = true≢false (sym h.meets ∙ k bits h.is_for)

  first_unique : (s t : List ℕ) → FirstFor n f s → FirstFor n f t → s ≡ t
  first_unique s t h k =
      let a = h.lowest t k.is_for k.meets in
      let b = k.lowest s h.is_for h.meets in
      row_same n s t h.is_for k.is_for (omega arith)

  -- What is found is the first; what is the first is found; nothing is found exactly if there is none.
  pub found_first : (bits : List ℕ) → (first_of f (assignments n) ≡ some bits) ↔ FirstFor n f bits
  unfolding Outcome
  found_first bits = (λ e. subst (Outcome n f) e (outcome n f), λ h. by (first_of f (assignments n)) (outcome n f) h)
    where
      by : (o : Option (List ℕ)) → Outcome n f o → FirstFor n f bits → o ≡ some bits
      by none k h = absurd (no_both bits h k)
      by (some s) k h = ap some (first_unique s bits k h)

  pub found_none : (first_of f (assignments n) ≡ none) ↔ NoneFor n f
  unfolding Outcome
  found_none = (λ e. subst (Outcome n f) e (outcome n f), λ h. by (first_of f (assignments n)) (outcome n f) h)
    where
      by : (o : Option (List ℕ)) → Outcome n f o → NoneFor n f → o ≡ none
      by none k h = refl
      by (some s) k h = absurd (no_both s k h)

  pub found_one : (bits : List ℕ) → T (bits_for n bits) → f bits ≡ true → (s : List ℕ) × (first_of f (assignments n) ≡ some s)
  found_one bits b e = by (first_of f (assignments n)) refl
    where
      by : (o : Option (List ℕ)) → first_of f (assignments n) ≡ o → (s : List ℕ) × (first_of f (assignments n) ≡ some s)
      by none q = absurd (true≢false (sym e ∙ found_none.0 q bits b))
      by (some s) q = (s, q)
