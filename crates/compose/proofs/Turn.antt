-- One turn of `composed_truth`'s loop, on the values: row i over the union U, of which l is the left row and r the right one.
use mathlib.Core.Path.{◌≡◌, sym, ap, ◌∙◌}
use mathlib.Core.List.{List}
use Prim.Native.Nat.{ℕ, ◌+◌, ◌-◌, ◌*◌, ◌/◌, ◌^◌, ◌<◌, ◌≤◌}
use native.Mathlib.Omega.{arith}
use lib.Bits.{bit_xor}
use lib.Count.{count_trailing_zeros}
use lib.ListN.{length, get_or, set}
use lib.Pow.{shr_lt}
use Rattle.laws.specs.Front.{Filling, filling_step}
use Rattle.rules.specs.Composition.{union_support, gate_truth}
use Rattle.cone.specs.declared.Cone.{Cone}
use Rattle.theorems.specs.SourceRows.{row_over, row_over_lt}
use Rattle.support.specs.Rows.{toggle_mask, next_row}
use Rattle.cone.specs.View.{cone_of, sources_different, view_sources, view_rows, truth-bit}
use Rattle.compose.specs.Compose.{gate_truth-at, gate_truth-length}
use Rattle.support.specs.Support.{union_length}

pub left_within : (left right : Cone) (U : List ℕ) → U ≡ union_support (cone_of left).support (cone_of right).support → left.n ≤ length U
left_within left right U e =
    omega (arith, ap length e, union_length (cone_of left).support (cone_of right).support, view_sources left)

-- what the loop works on belongs to these two cones
pub record Feeds (left right : Cone) (lefts rights U masks : List ℕ) (new : ℕ) : Type 0 where
  pub union : U ≡ union_support (cone_of left).support (cone_of right).support
  pub few : length U ≤ 11
  pub lefts_are : lefts ≡ (cone_of left).truth
  pub rights_are : rights ≡ (cone_of right).truth
  pub masks_are : (z : ℕ) → z < 12 → get_or masks z 0 ≡ toggle_mask U (cone_of right).support z
  pub new_is : new ≡ length U - left.n

module _ {left right : Cone} {lefts rights U masks : List ℕ} {new i r : ℕ} (w : Feeds left right lefts rights U masks new) (below : i < 2 ^ length U)
    (row : r ≡ row_over U (cone_of right).support i) where
  left_row : i / 2 ^ new < 2 ^ left.n
  left_row =
      let e : length U ≡ left.n + new = omega (arith, w.new_is, left_within left right U w.union) in
      shr_lt left.n new (rw e at below)

  right_row : r < 2 ^ right.n
  right_row = rw row (rw (view_sources right) at (row_over_lt U (cone_of right).support i))

  pub in_lefts : i / 2 ^ new < length lefts
  in_lefts = rw (w.lefts_are, view_rows left) left_row

  pub in_rights : r < length rights
  in_rights = rw (w.rights_are, view_rows right) right_row

  -- the two truths pick one of the gate's four answers, which is the definition's
  pub bits : (get_or lefts (i / 2 ^ new) 0 < 2) × (get_or rights r 0 < 2)
  bits = (rw w.lefts_are (truth-bit left (i / 2 ^ new)), rw w.rights_are (truth-bit right r))

  answer : (gate : List ℕ) → get_or gate (2 * get_or lefts (i / 2 ^ new) 0 + get_or rights r 0) 0 ≡ get_or (gate_truth U (cone_of left) (cone_of right) gate) i 0
  answer gate =
      sym
      (gate_truth-at (cone_of left) (cone_of right) gate i (sources_different left) U w.union below
      ∙ rw (view_sources left, ← w.new_is, ← row, ← w.lefts_are, ← w.rights_are))

  pub turn : (gate t t₀ : List ℕ) → Filling (gate_truth U (cone_of left) (cone_of right) gate) t₀ t i → i < length t₀
      → (bit_xor r (get_or masks (count_trailing_zeros 64 (i + 1)) 0) ≡ row_over U (cone_of right).support (i + 1))
      × Filling (gate_truth U (cone_of left) (cone_of right) gate) t₀ (set t i (get_or gate (2 * get_or lefts (i / 2 ^ new) 0 + get_or rights r 0) 0)) (i + 1)
  turn gate t t₀ f h = (
    next_row U (cone_of right).support i r w.few below row masks w.masks_are,
    filling_step _ _ t i _ 0 f (answer gate) (rw gate_truth-length below) h,
  )
