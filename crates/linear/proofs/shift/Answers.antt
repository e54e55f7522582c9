use Rattle.std.proofs.Common.{◌≡◌, sym, ◌∙◌, List, ℕ, ◌+◌, ◌≤◌, ◌<◌, length, get_or, set, w32, to_z, of_z, SFits, ℤ, pos, nat_abs, ◌+ℤ◌, arith, to_z-of_z}
use Rattle.std.proofs.Math.IntN.{+ℤ_comm}
use lib.ListN.{get_or-map}
use Rattle.laws.specs.Front.{Filling, front_get, filling_start, filling_step, filling-all}
use Rattle.laws.specs.Integer.{fits_abs, abs_add}
use Rattle.linear.specs.Table.{shifted, shifted-length}
use Rattle.scale.specs.Limits.{Within}
use Rattle.linear.proofs.shift.Goals as goal

-- one turn, on the values: l as they were, t as they are
module _ (l t : List ℤ) (i : ℕ) (k : ℤ) (lt : i < length l) (small : nat_abs k ≤ 1984) (w : Within 21824 l) (inv : Filling (shifted k l) l t i) where
  read : to_z w32 (of_z w32 (get_or t i (pos 0))) ≡ get_or l i (pos 0)
  read = rw (inv.so_far, front_get (shifted k l) l i i (pos 0) (omega arith)) (to_z-of_z {w = w32} (fits_abs (get_or l i (pos 0)) (omega (arith, w i))))

  fits : SFits w32 (to_z w32 (of_z w32 (get_or t i (pos 0))) +ℤ k)
  fits = rw read (fits_abs (get_or l i (pos 0) +ℤ k) (omega (arith, w i, abs_add (get_or l i (pos 0)) k)))

  turn : Filling (shifted k l) l (set t i (to_z w32 (of_z w32 (to_z w32 (of_z w32 (get_or t i (pos 0))) +ℤ k)))) (i + 1)
  unfolding shifted
  turn =
      rw (to_z-of_z fits, read)
      (filling_step _ l t i _ (k +ℤ pos 0) inv (+ℤ_comm (get_or l i (pos 0)) k ∙ sym (get_or-map (λ (y : ℤ). k +ℤ y) l i (pos 0))) (rw (shifted-length k l) lt) lt)

pub loop-v-init : goal.loop-v-init
loop-v-init c = filling_start _ _

pub overflow_add-v : goal.overflow_add-v
overflow_add-v c =
    let o = c.loop-v in
    fits c.args.part.now o.v-items o.v-index _ (omega arith) (simp (to_z-of_z c.ranges.c) c.requires.0) c.requires.1 o.invariant

pub loop-v-preserved : goal.loop-v-preserved
loop-v-preserved c =
    let o = c.loop-v in
    turn c.args.part.now o.v-items o.v-index _ (omega arith) (simp (to_z-of_z c.ranges.c) c.requires.0) c.requires.1 o.invariant

pub returns : goal.returns
returns c =
    let o = c.loop-v in
    filling-all _ _ _ o.v-index (simp (to_z-of_z c.ranges.c) at o.invariant) (shifted-length _ _) (omega arith)
