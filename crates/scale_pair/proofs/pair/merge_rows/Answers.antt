use Rattle.std.proofs.Common.{arith, rules}
use Rattle.std.proofs.lemmas.Grind.{common_steps}
use Rattle.merged_rows.specs.MergedValues.{combined}
use Rattle.scale_pair.specs.Pair.{Rows, basis_rows, row_turn}
use Rattle.scale_pair.proofs.pair.merge_rows.Goals as goal

-- one source more
pub loop-i-preserved : goal.loop-i-preserved
unfolding combined
loop-i-preserved c =
    let o = c.loop-i in
    let rows : Rows c.left-left.result.now c.right-right.result.now = rw (c.left-left.ensures.are, c.right-right.ensures.are) (basis_rows c.args.basis.now) in
    (grind (arith, common_steps), row_turn _ _ rows _ _ _ o.coefs o.i (omega arith) o.invariant.0 (search rules) o.invariant.1)
