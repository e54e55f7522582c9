use Rattle.std.proofs.Common.{◌≡◌, refl, sym, ap, subst, ◌∙◌, ℕ, ◌+◌, ◌*◌, ◌<◌, fold, ℤ, pos, min, take, arith}
use Rattle.merged_rows.specs.declared.energy.Moments.{Moments}
use Rattle.merged_rows.specs.EnergyRows.{SoFar, NearRows, add_record, none_so_far, block_near, block_so_far}
use Rattle.merged_rows.proofs.energy.energy_moments.Goals as goal
use Rattle.merged_rows.proofs.energy.energy_moments.Goals.{In-loop-block}

-- the block starts before the end
inside : (c : In-loop-block) → 8 * c.loop-block.block < c.args.n
inside c = omega (arith, c.loop-block-test.true, c.div_ceil-block-end.ensures)

abbrev sums : ℤ → ℤ → ℤ → Moments
sums x y z = record { xx = x; xy = y; yy = z }

no_moments : (x y z : ℤ) → x ≡ pos 0 → y ≡ pos 0 → z ≡ pos 0 → sums (pos 0) (pos 0) (pos 0) ≡ sums x y z
no_moments x y z e f g = rw (e, f, g) refl

pub loop-block-init : goal.loop-block-init
loop-block-init c =
    let a = c.args in
    subst (λ m. SoFar (min 0 a.n) a.xs.now a.ys.now a.counts.now m) (no_moments _ _ _ c.default-moments.ensures.0 c.default-moments.ensures.1.0 c.default-moments.ensures.1.1) (none_so_far _ _ _ _ (omega arith))

pub row_moments-moments-requires-clause-near : goal.row_moments-moments-requires-clause-near
row_moments-moments-requires-clause-near c =
    let a = c.args in
    let i = inside (goal.at.row_moments-moments-requires-clause-near c).In-loop-block in
    subst (λ l. NearRows (take c.min.result l)) (sym c.pack_rows-rows.ensures)
    (block_near a.n (8 * c.loop-block.block) c.min.result a.xs.now a.ys.now a.truth.now a.counts.now c.requires (omega (arith, c.min.ensures)) (omega (arith, c.min.ensures, i)))

pub loop-block-preserved : goal.loop-block-preserved
loop-block-preserved c =
    let a = c.args in
    let o = c.loop-block in
    let i = inside (goal.at.loop-block-preserved c).In-loop-block in
    let start : min (8 * o.block) a.n ≡ 8 * o.block = omega (arith, i) in
    let end : 8 * o.block + c.min.result ≡ min (8 * (o.block + 1)) a.n = omega (arith, c.min.ensures, i) in
    let S = λ (k : ℕ) (m : Moments). SoFar k a.xs.now a.ys.now a.counts.now m in
    let done = block_so_far a.n (8 * o.block) c.min.result a.xs.now a.ys.now a.truth.now a.counts.now c.requires (omega (arith, c.min.ensures)) (omega (arith, c.min.ensures, i)) o.moments c.fits-counts (subst (λ k. S k o.moments) start o.invariant) in
    subst (λ k. S k c.row_moments-moments.result) end
    (subst (S (8 * o.block + c.min.result)) (sym (c.row_moments-moments.ensures ∙ ap (λ l. fold add_record o.moments (take c.min.result l)) c.pack_rows-rows.ensures)) done)
