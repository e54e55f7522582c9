-- A word at the front of some bytes, as `strip_prefix` finds it.
use Rattle.std.specs.Prelude.{◌≡◌, refl, Bool, true, false, ◌&&◌, List, [], ◌∷◌, ℕ, ◌+◌, eqb, length, take, drop, Option, Some, None, MatchOption}
use Rattle.std.specs.Borrow.{Bor}
use Rattle.std.proofs.Common.{sym, ◌∙◌}
use Rattle.std.proofs.Math.Option.{none}
use Rattle.laws.specs.Test.{if◌then◌otherwise◌}
use Rattle.rules.specs.Form.{exactly, give}
use Rattle.text.specs.Pieces.{passed}
use lib.Pointwise.{pointwise}

abbrev begins : List ℕ → List ℕ → Bool
begins w s = pointwise eqb (take (length w) s) w

exactly_is : (w s : List ℕ) → exactly w s ≡ (if begins w s then give tt (drop (length w) s) otherwise none)
unfolding exactly
exactly_is [] s = refl
exactly_is (x ∷ w) [] = refl
exactly_is (x ∷ w) (b ∷ s) = by (eqb b x) (exactly_is w s)
  where
    by : (t : Bool) → exactly w s ≡ (if begins w s then give tt (drop (length w) s) otherwise none)
        → (if t then exactly w s otherwise none) ≡ (if t && begins w s then give tt (drop (length w) s) otherwise none)
    by true e = e
    by false e = refl

module _ (w s : List ℕ) where
  pub word_found : (r : Option (Bor (List ℕ))) → MatchOption r (begins w s ≡ false) (λ x. (begins w s ≡ true) × (x.now ≡ drop (length w) s) × (length x.now + length w ≡ length s)) → passed r ≡ exactly w s
  word_found None e = sym (exactly_is w s ∙ rw e)
  word_found (Some x) e = sym (exactly_is w s ∙ rw (e.0, e.1))
