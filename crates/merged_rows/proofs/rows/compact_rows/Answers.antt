use Rattle.std.proofs.Common.{◌≡◌, ◌∙◌, ℕ, ◌<◌, ◌^◌, le_refl, arith, rules, pos, get_or, replicate, Option, None, w32, to_z, of_z}
use lib.ListN.{length-replicate}
use Rattle.std.specs.Int.Signed.{mag}
use Rattle.laws.specs.Integer.{read_back-at}
use Rattle.merged_rows.specs.RowsFrame.{InFrame}
use Rattle.merged_rows.proofs.Turn.{new_row, row_again, place_small, row_here, none_at, no-turn, all-turns, as_stored}
use Rattle.merged_rows.proofs.rows.compact_rows.Goals as goal
use Rattle.merged_rows.proofs.rows.compact_rows.Goals.{In-loop-i, in-Some, in_default}

-- `merged_rows::rows::compact_rows` meets its contract: the rows so far stand for the assignments passed.
-- the row that is read, whose numbers fit
x_is : (c : In-loop-i) → let o = c.loop-i in mag (get_or o.xs o.i (pos 0)) < 2 ^ 31 → to_z w32 (of_z w32 (get_or o.xs o.i (pos 0))) ≡ get_or c.args.xs.now o.i (pos 0)
x_is c h = let o = c.loop-i in read_back-at w32 (get_or o.xs o.i (pos 0)) h ∙ o.invariant.x_left o.i (le_refl o.i)

y_is : (c : In-loop-i) → let o = c.loop-i in mag (get_or o.ys o.i (pos 0)) < 2 ^ 31 → to_z w32 (of_z w32 (get_or o.ys o.i (pos 0))) ≡ get_or c.args.ys.now o.i (pos 0)
y_is c h = let o = c.loop-i in read_back-at w32 (get_or o.ys o.i (pos 0)) h ∙ o.invariant.y_left o.i (le_refl o.i)

in_grid : (c : In-loop-i) → let o = c.loop-i in mag (get_or o.xs o.i (pos 0)) < 2 ^ 31 → mag (get_or o.ys o.i (pos 0)) < 2 ^ 31
    → InFrame c.args.f (to_z w32 (of_z w32 (get_or o.xs o.i (pos 0)))) (to_z w32 (of_z w32 (get_or o.ys o.i (pos 0)))) (get_or o.truth o.i 0)
in_grid c h k =
    let o = c.loop-i in
    row_here o.invariant c.args.rows c.args.counts.now c.requires c.loop-i-test.true _ _ (x_is c h) (y_is c k)

pub loop-i-init : goal.loop-i-init
loop-i-init c = no-turn c.args.f c.args.rows c.args.xs.now c.args.ys.now c.args.truth.now c.args.counts.now c.requires (replicate 2048 None) (length-replicate {A = Option ℕ} 2048 None) (none_at 2048)

pub cell-k-requires : goal.cell-k-requires
cell-k-requires c = in_grid (goal.at.cell-k-requires c).In-loop-i (search rules) (search rules)

pub bounds-counts-p : goal.bounds-counts-p
bounds-counts-p c = let q = place_small c.loop-i.invariant c.cell-k.result c.in-Some.p c.in-Some.is in omega (arith, q, c.loop-i.invariant.few, c.requires.few)

pub bounds-counts-p-in-Some : goal.bounds-counts-p-in-Some
bounds-counts-p-in-Some c = let q = place_small c.loop-i.invariant c.cell-k.result c.in-Some.p c.in-Some.is in omega (arith, q, c.loop-i.invariant.few, c.requires.few)

pub overflow_add-counts : goal.overflow_add-counts
overflow_add-counts c = let q = place_small c.loop-i.invariant c.cell-k.result c.in-Some.p c.in-Some.is in record { fits = omega (arith, q, c.loop-i.invariant.few, c.requires.few) }

pub loop-i-preserved : goal.loop-i-preserved
loop-i-preserved c =
    let o = c.loop-i in
    let r = (goal.at.loop-i-preserved c).In-loop-i in
    let fits-x : mag (get_or o.xs o.i (pos 0)) < 2 ^ 31 = search rules in
    let fits-y : mag (get_or o.ys o.i (pos 0)) < 2 ^ 31 = search rules in
    let h : o.i < 2048 = omega (arith, c.requires.few, c.loop-i-test.true) in
    elim c.match-places-k.branch [
      | in-Some w ↦ as_stored w.xs-is w.ys-is w.truth-is w.counts-is w.places-is w.n-is
          (row_again o.invariant c.requires.x_long c.requires.y_long c.requires.t_long h _ _ _ (x_is r fits-x) (y_is r fits-y) (o.invariant.t_left o.i (le_refl o.i)) (in_grid r fits-x fits-y) c.cell-k.result c.cell-k.ensures.0 _ w.in-Some.is)
      | in_default w ↦ as_stored w.xs-is w.ys-is w.truth-is w.counts-is w.places-is w.n-is
          (new_row o.invariant c.requires.x_long c.requires.y_long c.requires.t_long h _ _ _ (x_is r fits-x) (y_is r fits-y) (o.invariant.t_left o.i (le_refl o.i)) (in_grid r fits-x fits-y) _ c.cell-k.ensures.0 c.cell-k.ensures.1)
    ]

pub returns : goal.returns
returns c =
    let e = all-turns _ _ _ _ _ _ c.requires (omega arith) (omega (arith, c.loop-i-test.false)) c.loop-i.invariant in
    record { same = e.0; moved = e.1 }
