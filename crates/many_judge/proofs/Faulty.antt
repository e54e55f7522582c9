-- Whether something holds of one in a list, in std's words and in the definition's.
use Rattle.std.specs.Prelude.{◌≡◌, Bool, ◌||◌, List, [], ◌∷◌}
use Rattle.std.specs.List.{list_any}
use Rattle.std.proofs.Common.{refl, ap}
use Rattle.laws.specs.Select.{any}

pub any_same : {A : Type 0} (f : A → Bool) (l : List A) → list_any f l ≡ any f l
unfolding any
any_same f [] = refl
any_same f (x ∷ l) = ap (λ b. f x || b) (any_same f l)
