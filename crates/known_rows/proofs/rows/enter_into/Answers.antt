use Rattle.std.proofs.Common.{◌≡◌, sym, ap, ap₂, ◌∙◌, ℕ, ◌<◌, arith, rules, pos, nat_abs, ◌-ℤ◌, length, get_or, length-set, length-append, to_z-of_z, w32, SFits}
use Rattle.std.proofs.lemmas.Slice.Zip.{zip_turn, zip_end}
use Rattle.laws.specs.Integer.{le_same}
use Rattle.rules.specs.Builder.{enter}
use Rattle.rules.specs.Span.{least}
use Rattle.theorems.specs.Rows.{offset, enter_end}
use Rattle.theorems.specs.Spans.{least_le, offset_lt}
use Rattle.rotation.specs.Entries.{numbers}
use Rattle.known_rows.specs.Left.{entered_until, until_end}
use Rattle.known_rows.specs.Rows.{row_entered, row_left, row_refused, refused_left}
use Rattle.known_rows.proofs.rows.enter_into.Goals as goal
use Rattle.known_rows.proofs.rows.enter_into.Goals.{After-offset-k}

-- the row that is taken, and its entry
module _ (c : After-offset-k) where
  abbrev turn : ℕ
  turn = length c.loop-value.yielded

  row : (turn < length c.args.values.now) × (turn < length c.args.truths.now) × (c.in-Some.field-0-0.now ≡ get_or c.args.values.now turn (pos 0)) × (c.in-Some.field-0-1.now ≡ get_or c.args.truths.now turn 0)
  row =
      let t = zip_turn c.args.values.now c.args.truths.now c.loop-value.yielded c.into_iter-value-iterator.result c.loop-value.value-iterator c.next.new.self _ (cc) (cc) c.loop-value.yielded_by (c.in-Some.field-0-0, c.in-Some.field-0-1) c.in-Some.is c.next.ensures.steps in
      (t.0, t.1, t.2 (pos 0), t.3 0)

  at : c.offset-k.result ≡ offset (least c.args.values.now) c.args.values.now turn
  at =
      let f : SFits w32 c.in-Some.field-0-0.now = search rules in
      c.offset-k.ensures.0 ∙ ap₂ (λ v l. nat_abs (v -ℤ l)) (to_z-of_z f ∙ row.2) (to_z-of_z c.ranges.low ∙ c.requires.low_value)

  index : c.offset-k.result < length c.loop-value.known
  index = omega (arith, at, offset_lt c.args.values.now turn row.0)

pub offset-k-requires : goal.offset-k-requires
offset-k-requires c =
    let t = zip_turn c.args.values.now c.args.truths.now c.loop-value.yielded c.into_iter-value-iterator.result c.loop-value.value-iterator c.next.new.self _ (cc) (cc) c.loop-value.yielded_by (c.in-Some.field-0-0, c.in-Some.field-0-1) c.in-Some.is c.next.ensures.steps in
    let f : SFits w32 c.in-Some.field-0-0.now = search rules in
    le_same _ _ (least c.args.values.now) _ (to_z-of_z c.ranges.low ∙ c.requires.low_value) (to_z-of_z f ∙ t.2 (pos 0)) (least_le c.args.values.now _ t.0)

pub bounds-known-k : goal.bounds-known-k
bounds-known-k c = index (goal.at.bounds-known-k c).After-offset-k

pub returns : goal.returns
returns c =
    let o = c.loop-value in
    let done = zip_end c.args.values.now c.args.truths.now o.yielded c.into_iter-value-iterator.result o.value-iterator c.next.new.self _ (cc) (cc) o.yielded_by c.in-None.is c.next.ensures.steps in
    let low = sym c.requires.low_value in
    let values = c.args.values.now in
    let truths = c.args.truths.now in
    let known = numbers c.args.known.now in
    record {
      left = until_end (least values) values truths (numbers o.known) _ (omega (arith, done)) ∙ o.invariant.left ∙ ap (λ l. entered_until l values truths known) low;
      all = sym (enter_end (least values) values truths (numbers o.known) _ (omega (arith, done))) ∙ o.invariant.all ∙ ap (λ l. enter l values truths known) low;
    }

pub slice_copy_out-with_truth : goal.slice_copy_out-with_truth
slice_copy_out-with_truth c = index c

pub returns-in_default-clause-left : goal.returns-in_default-clause-left
returns-in_default-clause-left c =
    let o = c.loop-value in
    let at-k = (goal.at.returns-in_default-clause-left c).After-offset-k in
    let r = row at-k in
    refused_left (least c.args.values.now) c.args.values.now c.args.truths.now o.known _ _ _ r.0 r.1 (at at-k) r.3 (index at-k) _ c.with_truth.result c.with_truth.ensures c.in_default.is
    ∙ o.invariant.left ∙ ap (λ l. entered_until l c.args.values.now c.args.truths.now (numbers c.args.known.now)) (sym c.requires.low_value)

pub returns-in_default-clause-all : goal.returns-in_default-clause-all
returns-in_default-clause-all c =
    let o = c.loop-value in
    let at-k = (goal.at.returns-in_default-clause-all c).After-offset-k in
    let r = row at-k in
    row_refused (least c.args.values.now) c.args.values.now c.args.truths.now o.known _ _ _ r.0 r.1 (at at-k) r.3 (index at-k) _ c.with_truth.result c.with_truth.ensures c.in_default.is
    ∙ o.invariant.all ∙ ap (λ l. enter l c.args.values.now c.args.truths.now (numbers c.args.known.now)) (sym c.requires.low_value)

pub loop-value-preserved : goal.loop-value-preserved
loop-value-preserved c =
    let o = c.loop-value in
    let at-k = (goal.at.loop-value-preserved c).After-offset-k in
    let r = row at-k in
    simp length-append
    (record {
      long = simp length-set o.invariant.long;
      left = row_left (least c.args.values.now) c.args.values.now c.args.truths.now o.known _ _ _ r.0 r.1 (at at-k) r.3 (index at-k) _ c.with_truth.result c.with_truth.ensures _ c.in-Some-with_truth.is ∙ o.invariant.left;
      all = row_entered (least c.args.values.now) c.args.values.now c.args.truths.now o.known _ _ _ r.0 r.1 (at at-k) r.3 (index at-k) _ c.with_truth.result c.with_truth.ensures _ c.in-Some-with_truth.is ∙ o.invariant.all;
    })
