-- Bits taken by name: over all assignments of some names, all of them different, the bits of some of these are each assignment of their own equally often,
-- 2 to the number of the other names.
use Rattle.std.specs.Prelude.{◌≡◌, refl, Bool, true, false, ◌||◌, List, [], ◌∷◌, ◌++◌, map, ℕ, zero, suc, ◌+◌, ◌*◌, ◌≤◌, ◌^◌, length, count_by}
use Rattle.std.proofs.Common.{sym, ap, ap₂, ◌∙◌, true≢false, inl, inr, ⊎_elim, arith}
use Rattle.std.proofs.Math.Nat.{mul-add, two-pow-succ}
use Rattle.laws.specs.Sums.{count_same}
use Rattle.laws.specs.Test.{decide, neither_left, neither_right, or_by_right}
use Rattle.rules.specs.Circuit.{Name}
use Rattle.rules.specs.CircuitText.{same_name, listed}
use Rattle.rules.specs.Composition.{assignments}
use Rattle.theorems.specs.Assignments.{count_suc, count_fixed}
use Rattle.theorems.specs.Names.{name_self, name_is}
use Rattle.theorems.specs.SoundCircuits.{NewNames}
use Rattle.mapped.specs.NetworkStatements.{bit_named, SomeOf}
use Rattle.mapped.specs.PrunedNodes.{some_listed}

pub some_fewer : {A : Type 0} (ns ms : List A) → SomeOf ns ms → length ns ≤ length ms
unfolding SomeOf
some_fewer ns [] s = omega (arith, ap length s)
some_fewer [] (m ∷ ms) s = omega arith
some_fewer (n ∷ ns) (m ∷ ms) (inl s) = omega (arith, some_fewer ns ms s.1)
some_fewer (n ∷ ns) (m ∷ ms) (inr s) = omega (arith, some_fewer (n ∷ ns) ms s)

-- ---- Names that are new are not among those that come after them.

listed_more : (m : Name) (s t : List Name) → listed m s ≡ true → listed m (s ++ t) ≡ true
unfolding listed
listed_more m [] t e = absurd (true≢false (sym e))
listed_more m (n ∷ s) t e = by (same_name m n) e (listed_more m s t)
  where
    by : (b : Bool) → (b || listed m s) ≡ true → (listed m s ≡ true → listed m (s ++ t) ≡ true) → (b || listed m (s ++ t)) ≡ true
    by true f next = refl
    by false f next = next f

listed_last : (n : Name) (ns : List Name) → listed n (ns ++ (n ∷ [])) ≡ true
unfolding listed
listed_last n [] = rw (name_self n)
listed_last n (m ∷ ns) = or_by_right (same_name n m) (listed n (ns ++ (n ∷ []))) (listed_last n ns)

new_unlisted : (m : Name) (before ns : List Name) → NewNames before ns → listed m before ≡ true → listed m ns ≡ false
unfolding NewNames listed
new_unlisted m before [] h e = refl
new_unlisted m before (n ∷ ns) h e = by (same_name m n) refl (new_unlisted m (before ++ (n ∷ [])) ns h.1 (listed_more m before (n ∷ []) e))
  where
    by : (t : Bool) → same_name m n ≡ t → listed m ns ≡ false → (t || listed m ns) ≡ false
    by true f next = absurd (true≢false (sym e ∙ ap (λ q. listed q before) (name_is m n f) ∙ h.0))
    by false f next = next

-- the first of different names is not among some of the others
first_unlisted : (m : Name) (before ns ms : List Name) → NewNames (before ++ (m ∷ [])) ms → SomeOf ns ms → listed m ns ≡ false
first_unlisted m before ns ms h s =
    ⊎_elim
    (λ (e : listed m ns ≡ true). absurd (true≢false (sym (some_listed m ns ms s e) ∙ new_unlisted m (before ++ (m ∷ [])) ms h (listed_last m before))))
    (λ e. e)
    (decide (listed m ns))

-- ---- One name more.

other_bits : (m : Name) (ms ns : List Name) (b : ℕ) (bits : List ℕ) → listed m ns ≡ false → map (bit_named (m ∷ ms) (b ∷ bits)) ns ≡ map (bit_named ms bits) ns
unfolding bit_named listed
other_bits m ms [] b bits e = refl
other_bits m ms (n ∷ ns) b bits e = rw (neither_left (same_name m n) (listed m ns) e, other_bits m ms ns b bits (neither_right (same_name m n) (listed m ns) e))

-- one that is not taken doubles
count_left : (m : Name) (ms ns : List Name) (f : List ℕ → Bool) → listed m ns ≡ false
    → count_by (λ bits. f (map (bit_named (m ∷ ms) bits) ns)) (assignments (suc (length ms))) ≡ 2 * count_by (λ bits. f (map (bit_named ms bits) ns)) (assignments (length ms))
count_left m ms ns f e = omega (arith, count_suc (length ms) (λ bits. f (map (bit_named (m ∷ ms) bits) ns)), half 0, half 1)
  where
    half : (b : ℕ) → count_by (λ bits. f (map (bit_named (m ∷ ms) (b ∷ bits)) ns)) (assignments (length ms)) ≡ count_by (λ bits. f (map (bit_named ms bits) ns)) (assignments (length ms))
    half b = count_same _ _ (assignments (length ms)) (λ k d l. ap f (other_bits m ms ns b _ e))

-- one that is taken has both bits
count_taken : (n m : Name) (ms ns : List Name) (f : List ℕ → Bool) → n ≡ m → listed m ns ≡ false
    → count_by (λ bits. f (map (bit_named (m ∷ ms) bits) (n ∷ ns))) (assignments (suc (length ms)))
    ≡ count_by (λ bits. f (0 ∷ map (bit_named ms bits) ns)) (assignments (length ms)) + count_by (λ bits. f (1 ∷ map (bit_named ms bits) ns)) (assignments (length ms))
count_taken n m ms ns f e h = count_suc (length ms) (λ bits. f (map (bit_named (m ∷ ms) bits) (n ∷ ns))) ∙ ap₂ (λ a b. a + b) (half 0) (half 1)
  where
    own : (b : ℕ) (bits : List ℕ) → bit_named (m ∷ ms) (b ∷ bits) n ≡ b
    own b bits = unfold bit_named in rw (e, name_self m)

    half : (b : ℕ) → count_by (λ bits. f (map (bit_named (m ∷ ms) (b ∷ bits)) (n ∷ ns))) (assignments (length ms))
        ≡ count_by (λ bits. f (b ∷ map (bit_named ms bits) ns)) (assignments (length ms))
    half b = count_same _ _ (assignments (length ms)) (λ k d l. ap f (ap₂ {C = List ℕ} (λ x r. x ∷ r) (own b _) (other_bits m ms ns b _ h)))

-- ---- All of them: d names are not taken.

pub count_named : (before ns ms : List Name) (d : ℕ) (f : List ℕ → Bool) → NewNames before ms → SomeOf ns ms → length ms ≡ d + length ns
    → count_by (λ bits. f (map (bit_named ms bits) ns)) (assignments (length ms)) ≡ 2 ^ d * count_by f (assignments (length ns))
unfolding NewNames SomeOf
count_named before [] ms d f h s e = count_fixed (length ms) (f []) ∙ ap₂ (λ x y. 2 ^ x * y) (omega arith) (unfold assignments in omega arith)
count_named before (n ∷ ns) [] d f h s e = absurd (omega arith)
count_named before (n ∷ ns) (m ∷ ms) d f h (inl s) e =
    count_taken n m ms ns f s.0 (first_unlisted m before ns ms h.1 s.1)
    ∙ ap₂ (λ a b. a + b)
    (count_named (before ++ (m ∷ [])) ns ms d (λ bits. f (0 ∷ bits)) h.1 s.1 (omega arith))
    (count_named (before ++ (m ∷ [])) ns ms d (λ bits. f (1 ∷ bits)) h.1 s.1 (omega arith))
    ∙ sym (mul-add (2 ^ d) _ _)
    ∙ ap (λ x. 2 ^ d * x) (sym (count_suc (length ns) f))
count_named before (n ∷ ns) (m ∷ ms) zero f h (inr s) e = absurd (omega (arith, some_fewer (n ∷ ns) ms s))
count_named before (n ∷ ns) (m ∷ ms) (suc d) f h (inr s) e =
    count_left m ms (n ∷ ns) f (first_unlisted m before (n ∷ ns) ms h.1 s)
    ∙ ap (λ x. 2 * x) (count_named (before ++ (m ∷ [])) (n ∷ ns) ms d f h.1 s (omega arith))
    ∙ rw two-pow-succ (omega arith)
