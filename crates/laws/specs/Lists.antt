-- Lists: one that is empty, the entries of one that was mapped and of one of zeros, and a property of each element.
use Rattle.std.specs.Prelude.{◌≡◌, refl, List, [], ◌∷◌, map, ◌++◌, ℕ, zero, suc, ◌<◌, ◌≤◌, length, get_or}
use Rattle.std.proofs.Common.{arith, length-append}

pub nil_of : {A : Type 0} (l : List A) → length l ≡ 0 → l ≡ []
nil_of [] e = refl
nil_of (x ∷ l) e = absurd (omega arith)

pub map_at : {A B : Type 0} (f : A → B) (l : List A) (i : ℕ) (a : A) (b : B) → i < length l → get_or (map f l) i b ≡ f (get_or l i a)
map_at f [] i a b h = absurd (omega arith)
map_at f (v ∷ l) zero a b h = refl
map_at f (v ∷ l) (suc i) a b h = map_at f l i a b (omega arith)

pub snoc_le : {A : Type 0} (l : List A) (a : A) (n : ℕ) → length l < n → length (l ++ (a ∷ [])) ≤ n
snoc_le l a n h = rw length-append (omega arith)

-- Each of these has a property.
abbrev pub Each : {A : Type 0} → (A → Type 0) → List A → Type 0
Each Q [] = Unit {0}
Each Q (x ∷ l) = Q x × Each Q l
