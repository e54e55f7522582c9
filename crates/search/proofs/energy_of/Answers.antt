use Rattle.std.proofs.Common.{◌≡◌, ap, ap₂, ◌∙◌, nat_abs, arith, w64, ◌*ℤ◌, to_z, of_z, to_z-of_z}
use Rattle.std.specs.Int.Signed.{quot_z}
use Rattle.laws.specs.Integer.{fits_abs, abs_mul_le, quot_fits, read_back}
use Rattle.merged_rows.specs.EnergyMoments.{by_moments}
use Rattle.search.specs.Search.{energy_by}
use Rattle.search.proofs.energy_of.Goals as goal

-- `search::energy_of` meets its contract.
pub returns : goal.returns
unfolding energy_by
returns c =
    let p = c.args.pair in
    let m = c.args.moments in
    let d : to_z w64 (of_z w64 p.divisor) ≡ p.divisor = read_back p.divisor (omega arith) in
    let square : to_z w64 (of_z w64 (to_z w64 (of_z w64 p.divisor) *ℤ to_z w64 (of_z w64 p.divisor))) ≡ p.divisor *ℤ p.divisor =
    rw d (to_z-of_z {w = w64} (fits_abs (p.divisor *ℤ p.divisor) (omega (arith, abs_mul_le p.divisor p.divisor c.requires.1.divisor-small c.requires.1.divisor-small)))) in
    let sum = read_back c.energy_sum.result c.energy_sum.type_inv in
    let quotient : to_z w64 (of_z w64 (quot_z (to_z w64 (of_z w64 c.energy_sum.result)) (to_z w64 (of_z w64 (to_z w64 (of_z w64 p.divisor) *ℤ to_z w64 (of_z w64 p.divisor)))))) ≡ quot_z c.energy_sum.result (p.divisor *ℤ p.divisor) =
    rw (sum, square) (to_z-of_z {w = w64} (quot_fits c.energy_sum.result (p.divisor *ℤ p.divisor) (c.energy_sum.ensures.small))) in
    c.unsigned_abs.ensures.value
    ∙ ap nat_abs quotient
    ∙ ap (λ z. nat_abs (quot_z z (p.divisor *ℤ p.divisor)))
    (c.energy_sum.ensures.is ∙ ap₂ (λ x y. by_moments x y m.xx m.xy m.yy) (read_back p.a (omega arith)) (read_back p.b (omega arith)))
