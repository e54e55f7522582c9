use Rattle.std.proofs.Common.{◌≡◌, sym, ap, ◌∙◌, ⊎_elim, eq-eqb, ne_eqb, nat_eq, ℤ, to_z, of_z, to_z-of_z, SFits, w32, w64}
use mir.Facts.{sfits_widen}
use Rattle.laws.specs.Integer.{eq_z, eq_z_of, eq_z_not}
use Rattle.sum_reading.specs.Rows.{same_or_not}
use Rattle.sum_reading.proofs.search.is_equal.Goals as goal

-- the test is on the 64 bits
module _ (v w : ℤ) (f : SFits w32 v) (g : SFits w64 w) where
  same : of_z w64 v ≡ of_z w64 w → v ≡ w
  same e = let wide : SFits w64 v = sfits_widen tt f in sym (to_z-of_z wide) ∙ ap (to_z w64) e ∙ to_z-of_z g

  compared : nat_eq (of_z w64 (to_z w32 (of_z w32 v))) (of_z w64 w) ≡ eq_z v w
  compared =
      ap (λ z. nat_eq (of_z w64 z) (of_z w64 w)) (to_z-of_z f)
      ∙ ⊎_elim
      (λ (e : v ≡ w). eq-eqb _ _ (ap (of_z w64) e) ∙ sym (eq_z_of v w e))
      (λ (e : v ≡ w → ⊥). ne_eqb _ _ (λ h. e (same h)) ∙ sym (eq_z_not v w e))
      (same_or_not v w)

pub returns : goal.returns
returns c = compared c.args.value c.args.wanted c.ranges.value c.ranges.wanted
