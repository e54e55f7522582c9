use Rattle.std.proofs.Common.{◌≡◌, sym, List, ℕ, ◌+◌, ◌<◌, arith, ℤ, pos, length, get_or, set, w64, to_z, of_z, SFits, to_z-of_z}
use lib.Signed.{quot_z}
use lib.ListN.{length-map, get_or-map}
use Rattle.laws.specs.Integer.{fits_abs, quot_fits, abs_bits}
use Rattle.laws.specs.Front.{Filling, front_get, filling_start, filling_step, filling-all}
use Rattle.rules.specs.Scale.{quotients}
use Rattle.scale.specs.Limits.{Machine}
use Rattle.scale.proofs.divide_all.Goals as goal

-- one turn, on the values: l as they were, t as they are, i the index
module _ (d : ℤ) (l t : List ℤ) (i : ℕ) (below : Machine l) (lt : i < length l) (inv : Filling (quotients d l) l t i) where
  read : to_z w64 (of_z w64 (get_or t i (pos 0))) ≡ get_or l i (pos 0)
  read = rw (inv.so_far, front_get (quotients d l) l i i (pos 0) (omega arith)) (to_z-of_z {w = w64} (fits_abs (get_or l i (pos 0)) (below i)))

  fits : SFits w64 (quot_z (to_z w64 (of_z w64 (get_or t i (pos 0)))) d)
  fits = rw read (quot_fits (get_or l i (pos 0)) d (below i))

  turn : Filling (quotients d l) l (set t i (to_z w64 (of_z w64 (quot_z (to_z w64 (of_z w64 (get_or t i (pos 0)))) d)))) (i + 1)
  unfolding quotients
  turn =
      rw (to_z-of_z fits, read)
      (filling_step _ l t i _ (quot_z (pos 0) d) inv (sym (get_or-map (λ (y : ℤ). quot_z y d) l i (pos 0))) (rw length-map lt) lt)

same : (d : ℤ) (l : List ℤ) → length (quotients d l) ≡ length l
unfolding quotients
same d l = length-map l _

pub loop-v-init : goal.loop-v-init
loop-v-init c = filling_start _ _

pub nonzero_div-v : goal.nonzero_div-v
nonzero_div-v c =
    let o = c.loop-v in
    simp (to_z-of_z c.ranges.d) (abs_bits c.args.d c.requires.0 c.ranges.d, fits c.args.d c.args.values.now o.v-items o.v-index c.requires.1 (omega arith) (simp (to_z-of_z c.ranges.d) at o.invariant))

pub loop-v-preserved : goal.loop-v-preserved
loop-v-preserved c =
    let o = c.loop-v in
    turn _ c.args.values.now o.v-items o.v-index c.requires.1 (omega arith) o.invariant

pub returns : goal.returns
returns c =
    let o = c.loop-v in
    filling-all _ _ _ o.v-index (simp (to_z-of_z c.ranges.d) at o.invariant) (same _ _) (omega arith)
