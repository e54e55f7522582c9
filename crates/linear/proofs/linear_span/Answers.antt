use Rattle.std.proofs.Common.{◌≡◌, ◌+◌, arith, pos, get_or, drop, w64, to_z-of_z}
use Rattle.laws.specs.Integer.{fits_abs}
use Rattle.linear.specs.Span.{total_on, total_end, total-small}
use Rattle.theorems.specs.LinearTables.{span_table, total}
use Rattle.linear.proofs.linear_span.Goals as goal
use Rattle.linear.proofs.linear_span.Goals.{After-unsigned_abs}

-- what the coefficient that is read adds
adds : (c : After-unsigned_abs) → let o = c.loop-c in
    c.unsigned_abs.result + total (drop (o.c-index + 1) c.args.coefs.now) ≡ total (drop o.c-index c.args.coefs.now)
adds c =
    let o = c.loop-c in
    let back = to_z-of_z {w = w64} (fits_abs (get_or c.args.coefs.now o.c-index (pos 0)) (omega (arith, c.requires.1 o.c-index))) in
    omega (arith, simp back at c.unsigned_abs.ensures.value, total_on c.args.coefs.now o.c-index (omega arith))

pub overflow_add-sum : goal.overflow_add-sum
overflow_add-sum c =
    omega (arith, adds (goal.at.overflow_add-sum c).After-unsigned_abs, total-small 1984 c.args.coefs.now c.requires.1)

pub loop-c-preserved : goal.loop-c-preserved
loop-c-preserved c = omega (arith, adds (goal.at.loop-c-preserved c).After-unsigned_abs)

pub returns : goal.returns
returns c =
    let o = c.loop-c in
    omega (arith, total_end c.args.coefs.now o.c-index (omega arith), span_table c.args.coefs.now)
