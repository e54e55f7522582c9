-- Known entries as the definitions speak of them: by their numbers, 2 for unknown.
use Rattle.std.specs.Prelude.{◌≡◌, refl, List, [], ◌∷◌, map, ℕ, zero, suc, ◌<◌, ◌≤◌, length, get_or, take}
use Rattle.std.proofs.Common.{ap, ap₂, ◌∙◌, arith}
use Rattle.std.proofs.lemmas.List.{take-map, length-map}
use Rattle.laws.specs.Lists.{map_at}
use Rattle.rules.specs.declared.Entry.{Entry}
use Rattle.rules.specs.declared.Entry.TheVariants.{Zero, One, Unknown}
use Rattle.rules.specs.Builder.{Entries, entry_of}

abbrev pub number_of_entry : Entry → ℕ
number_of_entry Zero = 0
number_of_entry One = 1
number_of_entry Unknown = 2

abbrev pub numbers : List Entry → List ℕ
numbers known = map number_of_entry known

-- ---- laws

pub number_most : (x : Entry) → number_of_entry x ≤ 2
number_most Zero = omega arith
number_most One = omega arith
number_most Unknown = omega arith

numbers_most : (known : List Entry) (i : ℕ) → get_or (numbers known) i 0 ≤ 2
numbers_most [] i = omega arith
numbers_most (x ∷ known) zero = number_most x
numbers_most (x ∷ known) (suc i) = numbers_most known i

pub numbers-length : (known : List Entry) → length (numbers known) ≡ length known
numbers-length known = length-map known number_of_entry

pub numbers_take : (n : ℕ) (known : List Entry) → take n (numbers known) ≡ numbers (take n known)
numbers_take n known = take-map number_of_entry n known

pub entries_of : (known : List Entry) → Entries (numbers known)
entries_of known = record { at = numbers_most known }

pub entry_back : (x : Entry) → entry_of (number_of_entry x) ≡ x
unfolding entry_of
entry_back Zero = refl
entry_back One = refl
entry_back Unknown = refl

pub number_back : (b : ℕ) → b ≤ 2 → number_of_entry (entry_of b) ≡ b
unfolding entry_of
number_back zero h = refl
number_back (suc zero) h = refl
number_back (suc (suc zero)) h = refl
number_back (suc (suc (suc b))) h = absurd (omega arith)

-- entries by their numbers, and back
pub entries_back : (known : List Entry) → map entry_of (numbers known) ≡ known
entries_back [] = refl
entries_back (x ∷ known) = ap₂ ◌∷◌ (entry_back x) (entries_back known)

pub numbers_back : (known : List ℕ) → ((i : ℕ) → get_or known i 0 ≤ 2) → numbers (map entry_of known) ≡ known
numbers_back [] h = refl
numbers_back (x ∷ known) h = ap₂ ◌∷◌ (number_back x (h 0)) (numbers_back known (λ i. h (suc i)))

-- the entry at a place
pub number_at : (known : List Entry) (i : ℕ) (d : Entry) → i < length known → get_or (numbers known) i 0 ≡ number_of_entry (get_or known i d)
number_at known i d h = map_at number_of_entry known i d 0 h

pub entry_at : (known : List Entry) (i : ℕ) (d : Entry) → i < length known → entry_of (get_or (numbers known) i 0) ≡ get_or known i d
entry_at known i d h = ap entry_of (number_at known i d h) ∙ entry_back (get_or known i d)
