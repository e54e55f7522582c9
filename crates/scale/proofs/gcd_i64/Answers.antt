use Rattle.std.proofs.Common.{◌≡◌, sym, ap, ◌∙◌, ◌<◌, ◌^◌, ◌%◌, mod-lt, arith, ℤ, pos, nat_abs, w64, to_z, of_z, to_z-of_z}
use lib.Signed.{rem_z}
use Rattle.laws.specs.Integer.{abs_rem, rem-fits, bits_abs, read_back}
use Rattle.laws.specs.Gcd.{gcd_zero, gcd-step}
use Rattle.scale.proofs.gcd_i64.Goals as goal

-- the remainder, after a turn
rem_is : (l r : ℤ) → nat_abs l < 2 ^ 63 → nat_abs (to_z w64 (of_z w64 (rem_z l r))) ≡ nat_abs l % nat_abs r
rem_is l r h = rw (to_z-of_z {w = w64} (rem-fits l r h)) (abs_rem l r)

pub loop-r-preserved : goal.loop-r-preserved
loop-r-preserved c =
    let l = to_z w64 c.loop-r.l-bits in
    let r = to_z w64 c.loop-r.r-bits in
    let i = c.loop-r.invariant in
    let some : 0 < nat_abs r = bits_abs c.loop-r.r-bits c.loop-r-test.true in
    record {
      left_small = i.right_small;
      right_small = rw (rem_is l r i.left_small) (omega (arith, mod-lt (nat_abs l) some, i.right_small));
      same_gcd = rw (rem_is l r i.left_small) (sym (gcd-step (nat_abs l) (nat_abs r) some) ∙ i.same_gcd);
    }

pub returns : goal.returns
returns c =
    let same = simp (to_z-of_z c.ranges.left, to_z-of_z c.ranges.right, c.loop-r-test.false) at c.loop-r.invariant.same_gcd in
    read_back c.abs.result c.abs.type_inv
    ∙ c.abs.ensures.value ∙ ap pos (sym (gcd_zero (nat_abs (to_z w64 c.loop-r.l-bits))) ∙ same)
