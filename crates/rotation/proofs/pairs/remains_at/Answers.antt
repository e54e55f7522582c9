use Rattle.std.proofs.Common.{◌≡◌, refl, sym, ap, ap₂, ◌∙◌, ◌||◌, ◌+◌, ◌<◌, List, [], ◌∷◌, ℕ, map, length, get_or, eqb, arith, Bool}
use Rattle.std.specs.List.{list_any}
use Rattle.std.proofs.lemmas.List.{length-map}
use Rattle.laws.specs.Lists.{map_at}
use Rattle.laws.specs.Select.{any}
use Rattle.laws.specs.Test.{eqb_swap}
use Rattle.rules.specs.declared.Entry.{Entry}
use Rattle.rules.specs.Builder.{remaining, remains, remains_at, entry_of}
use Rattle.rotation.specs.Entries.{numbers, entry_at}
use Rattle.rotation.proofs.pairs.remains_at.Goals as goal

-- whether a number is one of some
any_of : (s : ℕ) (l : List ℕ) → list_any (λ y. eqb y s) l ≡ any (eqb s) l
unfolding any
any_of s [] = refl
any_of s (x ∷ l) = ap₂ ◌||◌ (eqb_swap x s) (any_of s l)

-- the entry that is taken from a place, by the number there
taken : {E : Type 0} (f : E → Entry) (known : List E) (i : ℕ) (x : E) (e : Entry) → i < length known → x ≡ get_or known i x → e ≡ f x → e ≡ entry_of (get_or (numbers (map f known)) i 0)
taken f known i x e h at is = is ∙ ap f at ∙ sym (map_at f known i x e h) ∙ sym (entry_at (map f known) i e (rw length-map h))

pair_remains : (s P : ℕ) (known : List ℕ) (i : ℕ) (x y : Entry) (sums : List ℕ) (r : Bool) → r ≡ list_any (λ z. eqb z s) sums → sums ≡ remaining x y
    → x ≡ entry_of (get_or known i 0) → y ≡ entry_of (get_or known (i + P) 0) → r ≡ remains_at s P known i
unfolding remains remains_at
pair_remains s P known i x y sums r found are left right = found ∙ any_of s sums ∙ ap (any (eqb s)) (are ∙ ap₂ remaining left right)

-- `rotation::pairs::remains_at` meets its contract.
pub returns : goal.returns
returns g c f say =
    let known = c.args.known.now in
    pair_remains _ _ _ _ _ _ _ _ c.contains.ensures.value c.remaining-sums.ensures
    (taken f known c.args.i _ _ (omega arith) c.index-known-i.is (say _ _ c.entry.ensures))
    (taken f known (c.args.i + c.args.size) _ _ (omega arith) c.index-known-i-2.is (say _ _ c.entry-2.ensures))
