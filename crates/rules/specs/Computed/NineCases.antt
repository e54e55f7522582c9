-- The nine cases of a pair of known entries, evaluated by the checker beside all bits that the entries can have.
use Rattle.std.specs.Prelude.{◌≡◌, refl, true, false, List, [], ◌∷◌, map, ℕ, ◌+◌, eqb}
use Rattle.std.proofs.Math.Option.{some}
use Rattle.laws.specs.Select.{select, any}
use Rattle.rules.specs.declared.Entry.{Entry}
use Rattle.rules.specs.declared.Entry.TheVariants.{Zero, One, Unknown}
use Rattle.rules.specs.Builder.{entry_of, remaining, remains, remains_at, remains_for_all, completion}
use Rattle.rules.specs.Computed.Computing.{tables}

-- the bits that an entry can have
unfoldable pub bits_of : Entry → List ℕ
bits_of Zero = 0 ∷ []
bits_of One = 1 ∷ []
bits_of Unknown = 0 ∷ 1 ∷ []

-- the sums that a bit for each of two entries gives
unfoldable pub given : Entry → Entry → List ℕ
given x y = select (λ s. any (λ a. any (λ b. eqb s (a + b)) (bits_of y)) (bits_of x)) (0 ∷ 1 ∷ 2 ∷ [])

pub computed : (x y : Entry) → remaining x y ≡ given x y
unfolding remaining given bits_of select any
computed Zero Zero = refl
computed Zero One = refl
computed Zero Unknown = refl
computed One Zero = refl
computed One One = refl
computed One Unknown = refl
computed Unknown Zero = refl
computed Unknown One = refl
computed Unknown Unknown = refl

-- docs/PAIRS.md's example, P = 3: 1 and 2 are left, and the table built is filled with 1
unfoldable pub known : List ℕ
known = 1 ∷ 2 ∷ 2 ∷ 2 ∷ 2 ∷ 1 ∷ []

pub one_and_two_left : map (λ s. remains_for_all s 3 known) (0 ∷ 1 ∷ 2 ∷ []) ≡ false ∷ true ∷ true ∷ []
unfolding known entry_of remaining remains remains_at remains_for_all any tables
one_and_two_left = refl

pub filled_with_one : completion 3 known ≡ some (1 ∷ 1 ∷ 1 ∷ 1 ∷ 1 ∷ 1 ∷ [])
unfolding known tables
filled_with_one = refl
