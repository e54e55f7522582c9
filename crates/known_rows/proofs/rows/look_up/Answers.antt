use Rattle.std.proofs.Common.{◌≡◌, refl, sym, ap, ◌∙◌, List, map, ℕ, ◌≤◌, ◌<◌, arith, ℤ, pos, nat_abs, ◌-ℤ◌, length, get_or, ◌≤ℤ◌, w32, to_z, of_z, to_z-of_z}
use lib.ListN.{length-map}
use Rattle.laws.specs.Integer.{read_back-at}
use Rattle.laws.specs.Front.{Filling, filling_start, filling_step}
use Rattle.laws.specs.Over.{over, front-over}
use Rattle.laws.specs.Lists.{map_at}
use Rattle.rules.specs.Span.{least}
use Rattle.theorems.specs.Spans.{least_le, offset_lt}
use Rattle.known_rows.specs.Entries.{entry_at}
use Rattle.known_rows.proofs.rows.look_up.Goals as goal
use Rattle.known_rows.proofs.rows.look_up.Goals.{Start, After-offset}

-- one row's entry, and the rows at the end
looked : (low : ℤ) (entries : List ℕ) (values : List ℤ) (i k : ℕ) → i < length values → k ≡ nat_abs (get_or values i (pos 0) -ℤ low)
    → get_or entries k 0 ≡ get_or (map (entry_at low entries) values) i 0
unfolding entry_at
looked low entries values i k h e = ap (λ n. get_or entries n 0) e ∙ sym (map_at (entry_at low entries) values i (pos 0) 0 h)

whole : (low z : ℤ) (entries : List ℕ) (values : List ℤ) (d t : List ℕ) (i : ℕ) → z ≡ low → Filling (map (entry_at z entries) values) d t i
    → length values ≡ i → length values ≤ length d → t ≡ over (map (entry_at low entries) values) d
whole low z entries values d t i e w h k =
    w.so_far ∙ front-over (map (entry_at z entries) values) d i (length-map values (entry_at z entries) ∙ h) (rw length-map k) ∙ ap (λ x. over (map (entry_at x entries) values) d) e

below : (low v : ℤ) {l w : ℤ} → w ≡ v → l ≡ low → low ≤ℤ v → l ≤ℤ w
below low v e f h = rw (e, f) h

-- the place of a row
placed : (v low w l : ℤ) (k : ℕ) → k ≡ nat_abs (w -ℤ l) → w ≡ v → l ≡ low → k ≡ nat_abs (v -ℤ low)
placed v low w l k h e f = rw (← e, ← f) h

low-is : (c : Start) → to_z w32 (of_z w32 c.args.low) ≡ c.args.low
low-is c = to_z-of_z c.ranges.low

pub loop-i-init : goal.loop-i-init
loop-i-init c = filling_start _ _

pub offset-requires : goal.offset-requires
offset-requires c =
    below _ _ (read_back-at w32 _ (omega arith)) (low-is (goal.at.offset-requires c).Start ∙ c.requires.low_value) (least_le c.args.values.now c.loop-i.i c.loop-i-test.true)

inside : (c : After-offset) → c.offset.result < length c.args.entries.now
inside c =
    let at : c.offset.result ≡ nat_abs (get_or c.args.values.now c.loop-i.i (pos 0) -ℤ least c.args.values.now) =
    placed _ _ _ _ _ c.offset.ensures.0 (read_back-at w32 _ (omega arith)) (to_z-of_z c.ranges.low ∙ c.requires.low_value) in
    omega (arith, at, c.requires.values_in_bounds, offset_lt c.args.values.now c.loop-i.i c.loop-i-test.true)

pub bounds-entries-offset : goal.bounds-entries-offset
bounds-entries-offset c = inside (goal.at.bounds-entries-offset c).After-offset

pub loop-i-preserved : goal.loop-i-preserved
loop-i-preserved c =
    let o = c.loop-i in
    let h : o.i < length c.args.values.now = c.loop-i-test.true in
    let at : c.offset.result ≡ nat_abs (get_or c.args.values.now o.i (pos 0) -ℤ to_z w32 (of_z w32 c.args.low)) =
    placed (get_or c.args.values.now o.i (pos 0)) _ _ _ _ c.offset.ensures.0 (read_back-at w32 _ (omega arith)) refl in
    filling_step _ _ o.truths o.i _ 0 o.invariant (looked _ c.args.entries.now c.args.values.now o.i c.offset.result h at) (rw length-map h) (omega (arith, c.requires.truths_len))

pub returns : goal.returns
returns c =
    let o = c.loop-i in
    whole _ _ c.args.entries.now c.args.values.now _ o.truths o.i (low-is (goal.at.returns c).Start) o.invariant (omega (arith, c.loop-i-test.false)) c.requires.truths_len
