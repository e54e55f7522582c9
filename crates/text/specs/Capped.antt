-- A value of any size is read up to a cap: what the code has is the capped value, what the reader takes is the value itself.
use Rattle.std.specs.Prelude.{◌≡◌, List, ℕ}
use Rattle.std.proofs.Math.Path.{refl, sym, ap}
use Rattle.std.proofs.Math.Option.{Option, none, some, some-injective, none-ne-some}
use Rattle.rules.specs.Form.{Piece}

-- A reader's piece, with its value capped.
unfoldable pub capped : {A : Type 0} → (A → A) → Option (Piece A) → Option (Piece A)
capped f none = none
capped f (some p) = some (record { value = f p.value; rest = p.rest })

module _ {A : Type 0} (f : A → A) {v : A} {x : List ℕ} where
  -- what it was before the cap
  pub exact_some : (o : Option (Piece A)) → capped f o ≡ some (record { value = v; rest = x }) → (u : A) × (o ≡ some (record { value = u; rest = x })) × (v ≡ f u)
  unfolding capped
  exact_some none e = absurd (none-ne-some _ e)
  exact_some (some p) e =
      let q = some-injective _ _ e in
      (p.value, ap (λ y. some (record { value = p.value; rest = y })) (ap (λ t. t.rest) q), sym (ap (λ t. t.value) q))

module _ {A : Type 0} (f : A → A) where
  pub exact_none : (o : Option (Piece A)) → capped f o ≡ none → o ≡ none
  unfolding capped
  exact_none none e = refl
  exact_none (some p) e = absurd (none-ne-some _ (sym e))
