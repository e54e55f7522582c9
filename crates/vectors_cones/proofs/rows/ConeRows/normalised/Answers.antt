use Rattle.std.proofs.Common.{sym, subst, ◌∙◌, ◌<◌, arith, nat_abs}
use Rattle.laws.specs.Integer.{read_back}
use Rattle.scale.specs.Divisor.{divisor_not_zero}
use Rattle.cone.specs.View.{cone_of, small}
use Rattle.vectors_cones.proofs.rows.ConeRows.normalised.Goals as goal

-- It divides by no 0.
pub divide_all-requires : goal.divide_all-requires
unfolding cone_of
divide_all-requires c =
    let d = c.coefficient_normalization_divisor-d in
    (subst (λ z. 0 < nat_abs z) (sym (read_back d.result d.type_inv ∙ d.ensures)) (divisor_not_zero c.coefficients.result.now), λ i. omega (arith, small c.args.cone i))
