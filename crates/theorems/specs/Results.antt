-- Results and readings taken apart.
use Rattle.std.specs.Prelude.{◌≡◌, refl, ◌⊎◌, ℕ}
use Rattle.std.proofs.Common.{ap, inl, inr}
use Rattle.laws.specs.Test.{zero≢one}
use Rattle.rules.specs.Cone.{ok, Result, err, ◌>>=◌}
use Rattle.rules.specs.Form.{Reading, Good, Refused}
use Rattle.rules.specs.Mapper.{at_line, and_then}

pub ok_same : {A : Type 0} (a b : A) → ok a ≡ ok b → a ≡ b
ok_same a b e = cc

pub ok_then : {A B : Type 0} (r : Result A) (f : A → Result B) (b : B) → (r >>= f) ≡ ok b → (a : A) × (r ≡ ok a) × (f a ≡ ok b)
ok_then (ok a) f b e = (a, refl, e)
ok_then (err k) f b e = absurd (zero≢one (cc))

pub err_not : {A : Type 0} (k : ℕ) (a : A) → err k ≡ ok a → ⊥
err_not k a e = zero≢one (cc)

pub err_same : {A : Type 0} (j k : ℕ) → ◌≡◌ {A = Result A} (err j) (err k) → j ≡ k
err_same j k e = cc

pub err_then : {A B : Type 0} (r : Result A) (f : A → Result B) (k : ℕ) → (r >>= f) ≡ err k → (r ≡ err k) ⊎ ((a : A) × (r ≡ ok a) × (f a ≡ err k))
err_then (ok a) f k e = inr (a, refl, e)
err_then (err j) f k e = inl (ap err (err_same j k e))

pub good_same : {A : Type 0} (a b : A) → ◌≡◌ {A = Reading A} (Good a) (Good b) → a ≡ b
good_same a b e = cc

pub good_then : {A B : Type 0} (line : ℕ) (r : Result A) (next : A → Reading B) (b : B) → and_then (at_line line r) next ≡ Good b
    → (a : A) × (r ≡ ok a) × (next a ≡ Good b)
unfolding and_then at_line
good_then line (ok a) next b e = (a, refl, e)
good_then line (err k) next b e = absurd (zero≢one (cc))

pub reading_then : {A B : Type 0} (r : Reading A) (next : A → Reading B) (b : B) → and_then r next ≡ Good b → (a : A) × (r ≡ Good a) × (next a ≡ Good b)
unfolding and_then
reading_then (Good a) next b e = (a, refl, e)
reading_then (Refused k line) next b e = absurd (zero≢one (cc))
