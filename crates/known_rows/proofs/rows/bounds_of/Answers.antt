use Rattle.std.proofs.Common.{◌≡◌, refl, sym, ap, ◌∙◌, ◌+◌, ◌-◌, arith, rules, Bool, true, false, drop, take, length, get_or, ℤ, pos, w32, to_z, of_z, to_z-of_z, SFits}
use lib.Signed.{lt_z}
use Rattle.std.specs.Int.{int_max, int_min}
use Rattle.std.proofs.lemmas.Int.{ints, clamps}
use Rattle.laws.specs.Integer.{read_back-at}
use Rattle.laws.specs.Tail.{tail_part}
use Rattle.laws.specs.Test.{if◌then◌otherwise◌}
use Rattle.rules.specs.Span.{least_from, greatest_from}
use Rattle.theorems.specs.Spans.{least_start, greatest_start, least-turn, greatest-turn, least_end, greatest_end}
use Rattle.known_rows.proofs.rows.bounds_of.Goals as goal

min_is : (m v : ℤ) → int_min m v ≡ (if lt_z v m then v otherwise m)
min_is m v = by (lt_z v m) refl
  where
    by : (b : Bool) → lt_z v m ≡ b → int_min m v ≡ (if b then v otherwise m)
    by true e = grind (arith, ints, clamps)
    by false e = grind (arith, ints, clamps)

max_is : (m v : ℤ) → int_max m v ≡ (if lt_z m v then v otherwise m)
max_is m v = by (lt_z m v) refl
  where
    by : (b : Bool) → lt_z m v ≡ b → int_max m v ≡ (if b then v otherwise m)
    by true e = grind (arith, ints, clamps)
    by false e = grind (arith, ints, clamps)

pub loop-v-init : goal.loop-v-init
loop-v-init c =
    let values = c.args.values.now in
    let f : SFits w32 (get_or values 0 (pos 0)) = search rules in
    rw (tail_part values 1, to_z-of_z f) (record { low = least_start values c.requires; high = greatest_start values c.requires })

pub loop-v-preserved : goal.loop-v-preserved
loop-v-preserved c =
    let o = c.loop-v in
    let values = drop 1 c.args.values.now in
    let left = take (length c.args.values.now - 1) values in
    let f : SFits w32 (get_or left o.v-index (pos 0)) = search rules in
    let x = to_z w32 (of_z w32 (get_or left o.v-index (pos 0))) in
    record {
      low = ap (λ m. least_from m (drop (o.v-index + 1) left)) (read_back-at w32 _ c.min-low.type_inv)
          ∙ least-turn left (to_z w32 o.low-bits) o.v-index _ _ c.loop-v-test.true (to_z-of_z f) (c.min-low.ensures.value ∙ min_is (to_z w32 o.low-bits) x)
          ∙ o.invariant.low;
      high = ap (λ m. greatest_from m (drop (o.v-index + 1) left)) (read_back-at w32 _ c.max-high.type_inv)
          ∙ greatest-turn left (to_z w32 o.high-bits) o.v-index _ _ c.loop-v-test.true (to_z-of_z f) (c.max-high.ensures.value ∙ max_is (to_z w32 o.high-bits) x)
          ∙ o.invariant.high;
    }

pub returns : goal.returns
returns c =
    let o = c.loop-v in
    (sym (least_end _ (to_z w32 o.low-bits) o.v-index c.loop-v-test.false) ∙ o.invariant.low, sym (greatest_end _ (to_z w32 o.high-bits) o.v-index c.loop-v-test.false) ∙ o.invariant.high)
