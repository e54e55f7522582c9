use Rattle.std.proofs.Common.{◌≡◌, sym, ap, ◌∙◌, Bool, true, false, ◌&&◌, ◌||◌, ne_eqb, arith, eqb, ℤ, pos, nat_abs, w64, to_z, to_z-of_z}
use lib.Signed.{lt_z}
use Rattle.laws.specs.Gcd.{gcd}
use Rattle.laws.specs.Integer.{bits_abs}
use Rattle.rules.specs.Scale.{is_scale_pair}
use Rattle.scale.proofs.is_candidate_scale_pair.Goals as goal
use Rattle.scale.proofs.is_candidate_scale_pair.Goals.{Joined-first-gt0, then-first-gt0, else-first-gt0+then-first-eq0, else-first-gt0+else-first-eq0}

-- `scale::is_candidate_scale_pair` meets its contract: the sign, then the gcd.
abbrev has_sign : ℤ → ℤ → Bool
has_sign a b = lt_z (pos 0) a || (eqb (nat_abs a) 0 && lt_z (pos 0) b)

-- x and y are a and b as they are read
module _ (a b x y : ℤ) (r : Bool) (read : x ≡ a) (other : y ≡ b) where
  above : lt_z (pos 0) x ≡ true → r ≡ lt_z (pos 0) x → r ≡ has_sign a b
  above t e = rw (e, ← read, t)

  zero : x ≡ pos 0 → r ≡ lt_z (pos 0) y → r ≡ has_sign a b
  zero z e = rw (e, other, ← read, z)

  below : lt_z (pos 0) x ≡ false → (nat_abs x ≡ 0 → ⊥) → r ≡ false → r ≡ has_sign a b
  below t n e = rw (e, ← read, t, ne_eqb (nat_abs x) 0 n)

sign_is : (c : Joined-first-gt0) → c.if-first-gt0.signed ≡ has_sign c.args.first c.args.second
sign_is c =
    let first = to_z-of_z c.ranges.first in
    let second = to_z-of_z c.ranges.second in
    elim c.if-first-gt0.branch [
      | then-first-gt0 w ↦ above _ _ _ _ _ first second w.if-first-gt0.true w.signed-is
      | else-first-gt0+then-first-eq0 w ↦ zero _ _ _ _ _ first second (ap (to_z w64) w.if-first-eq0.true) w.signed-is
      | else-first-gt0+else-first-eq0 w ↦ below _ _ _ _ _ first second w.if-first-gt0.false (λ e. omega (arith, e, bits_abs _ w.if-first-eq0.false)) (w.signed-is ∙ ne_eqb _ 0 w.if-first-eq0.false)
    ]

pub returns-then-signed : goal.returns-then-signed
unfolding is_scale_pair
returns-then-signed c =
    let g : c.gcd_i64.result ≡ pos (gcd (nat_abs c.args.first) (nat_abs c.args.second)) = simp (to_z-of_z c.ranges.first, to_z-of_z c.ranges.second) at c.gcd_i64.ensures in
    rw (sym (sign_is (goal.at.returns-then-signed c).Joined-first-gt0) ∙ c.if-signed.true, g)

pub returns-else-signed : goal.returns-else-signed
unfolding is_scale_pair
returns-else-signed c = rw (sym (sign_is (goal.at.returns-else-signed c).Joined-first-gt0) ∙ c.if-signed.false) c.if-signed.false
