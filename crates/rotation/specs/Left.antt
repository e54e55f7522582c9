-- What `complete` leaves in the table that it is lent, on a refusal too: the completion tried last.
use Rattle.std.specs.Prelude.{◌≡◌, Bool, List, ℕ}
use Rattle.std.proofs.Math.Path.{refl}
use Rattle.std.proofs.Common.{◌∙◌}
use Rattle.std.proofs.Math.Bool.{true, false}
use Rattle.std.proofs.Math.Option
use Rattle.std.proofs.Math.Option.{none, some}
use Rattle.laws.specs.Test.{if◌then◌otherwise◌}
use Rattle.rules.specs.Builder.{filled, opposed, completion, last_tried}
use Rattle.rules.specs.Rotation.{rotatable}

module _ (P : ℕ) (known t : List ℕ) where
  pub tried_zero : t ≡ filled 0 known → rotatable P (filled 0 known) ≡ true → t ≡ last_tried P known
  unfolding last_tried completion
  tried_zero is e = rw (is, e)

  pub tried-one : t ≡ filled 1 known → rotatable P (filled 0 known) ≡ false → rotatable P (filled 1 known) ≡ true → t ≡ last_tried P known
  unfolding last_tried completion
  tried-one is e f = rw (is, e, f)

  pub tried-opposed : t ≡ opposed P known → rotatable P (filled 0 known) ≡ false → rotatable P (filled 1 known) ≡ false → t ≡ last_tried P known
  unfolding last_tried completion
  tried-opposed is e f = is ∙ rw (e, f) (by (rotatable P (opposed P known)))
    where
      by : (b : Bool) → opposed P known ≡ Option.get_or (if b then some (opposed P known) otherwise none) (opposed P known)
      by true = refl
      by false = refl
