use Rattle.std.proofs.Common.{◌≡◌, refl, sym, ap, ◌∙◌, ◌-◌, ◌/◌, ◌^◌, ◌<◌, arith, rules, length, get_or}
use Rattle.laws.specs.Front.{filling_start}
use Rattle.laws.specs.Over.{front-over}
use Rattle.support.specs.Rows.{row_over_zero, toggle_mask, zeros}
use Rattle.cone.specs.View.{cone_of}
use Rattle.compose.specs.Compose.{gate_truth-length}
use Rattle.compose.proofs.Turn.{Feeds, left_within, in_lefts, in_rights, bits, turn}
use Rattle.compose.proofs.composed_truth.Goals as goal
use Rattle.compose.proofs.composed_truth.Goals.{After-toggle_masks-masks, In-loop-i}

-- `compose::composed_truth` meets its contract.
-- what the loop works on is the two cones'
feeds : (c : After-toggle_masks-masks) → Feeds c.args.left c.args.right c.args.lefts.now c.args.rights.now c.args.support.now c.toggle_masks-masks.result (length c.args.support.now - c.args.left.n)
feeds c =
    record {
      union = c.requires.cones.0;
      few = c.requires.cones.1.0;
      lefts_are = c.requires.truths.0;
      rights_are = c.requires.truths.1;
      masks_are = λ z h. c.toggle_masks-masks.ensures z h ∙ ap (λ s. toggle_mask c.args.support.now s z) c.sources.ensures.are;
      new_is = refl;
    }

below : (c : In-loop-i) → c.loop-i.i < 2 ^ length c.args.support.now
below c = search rules

-- w is what `feeds` says at the loop
reads : (c : In-loop-i) → Feeds c.args.left c.args.right c.args.lefts.now c.args.rights.now c.args.support.now c.toggle_masks-masks.result (length c.args.support.now - c.args.left.n)
    → let l = c.loop-i.i / 2 ^ (length c.args.support.now - c.args.left.n) in
    (l < length c.args.lefts.now) × ((c.loop-i.right_row < length c.args.rights.now) × ((get_or c.args.lefts.now l 0 < 2) × (get_or c.args.rights.now c.loop-i.right_row 0 < 2)))
reads c w =
    let row = c.loop-i.invariant.0 in
    (in_lefts w (below c) row, (in_rights w (below c) row, bits w (below c) row))

pub overflow_sub-added : goal.overflow_sub-added
overflow_sub-added c = left_within c.args.left c.args.right c.args.support.now c.requires.cones.0

pub loop-i-init : goal.loop-i-init
loop-i-init c = (sym (row_over_zero _ _), filling_start _ _)

pub bounds-lefts-i : goal.bounds-lefts-i
bounds-lefts-i c = (reads (goal.at.bounds-lefts-i c).In-loop-i (feeds (goal.at.bounds-lefts-i c).After-toggle_masks-masks)).0

pub bounds-rights-right_row : goal.bounds-rights-right_row
bounds-rights-right_row c = (reads (goal.at.bounds-rights-right_row c).In-loop-i (feeds (goal.at.bounds-rights-right_row c).After-toggle_masks-masks)).1.0

pub bounds-gate-inputs : goal.bounds-gate-inputs
bounds-gate-inputs c = omega (arith, (reads (goal.at.bounds-gate-inputs c).In-loop-i (feeds (goal.at.bounds-gate-inputs c).After-toggle_masks-masks)).1.1)

pub bounds-masks-i : goal.bounds-masks-i
bounds-masks-i c = zeros _ _ c.loop-i.i c.loop-i.right_row c.requires.cones.1.0 (below (goal.at.bounds-masks-i c).In-loop-i) c.loop-i.invariant.0

pub loop-i-preserved : goal.loop-i-preserved
loop-i-preserved c =
    let o = c.loop-i in
    let b = below (goal.at.loop-i-preserved c).In-loop-i in
    turn (feeds (goal.at.loop-i-preserved c).After-toggle_masks-masks) b o.invariant.0 _ o.truth _ o.invariant.1 (omega (arith, b, c.requires.cones.1.1))

pub returns : goal.returns
returns c =
    let o = c.loop-i in
    let done : 2 ^ length c.args.support.now ≡ o.i = omega (arith, c.loop-i-test.false) in
    let long = gate_truth-length c.args.support.now (cone_of c.args.left) (cone_of c.args.right) c.args.gate in
    o.invariant.1.so_far ∙ front-over _ _ o.i (long ∙ done) (omega (arith, long, c.requires.cones.1.1))
