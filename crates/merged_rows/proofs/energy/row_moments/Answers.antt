use Rattle.std.proofs.Common.{◌≡◌, sym, ap, ap₂, subst, ◌∙◌, ◌+◌, ◌-◌, length, get_or, arith, rules, w32}
use Rattle.std.proofs.lemmas.List.Sums.{fold_more}
use Rattle.laws.specs.Integer.{read_back-at}
use Rattle.merged_rows.specs.declared.energy.Moments.{Moments}
use Rattle.merged_rows.specs.EnergyRows.{Grown, add_row, add_record, grown_row, no_row}
use Rattle.merged_rows.proofs.energy.row_moments.Goals as goal

pub loop-row-preserved : goal.loop-row-preserved
unfolding add_record
loop-row-preserved c =
    let o = c.loop-row in
    let row = get_or c.args.rows.now o.row-index no_row in
    let left = 2048 - length c.args.rows.now in
    let at : left + o.row-index + 1 ≡ left + (o.row-index + 1) = omega arith in
    let e = c.with_row-moments.ensures.row ∙ ap₂ (λ x y. add_row o.moments x y row.count) (read_back-at w32 row.x (search rules)) (read_back-at w32 row.y (search rules)) in (
      e ∙ ap (λ (m : Moments). add_record m row) o.invariant.0 ∙ sym (fold_more add_record c.args.sums c.args.rows.now o.row-index no_row c.loop-row-test.true),
      subst (λ k. Grown k c.with_row-moments.result) at
          (subst (Grown (left + o.row-index + 1)) (sym e)
          (grown_row (left + o.row-index) o.moments row.x row.y row.count o.invariant.1 (c.requires.near.x o.row-index c.loop-row-test.true) (c.requires.near.y o.row-index c.loop-row-test.true) c.with_row-moments.ensures.few)),
    )
