use Rattle.std.proofs.Common.{◌≡◌, sym, ap, ◌∙◌, List, ℕ, ◌≤◌, ◌^◌, le_trans, arith, length, take, pow_mono}
use Rattle.laws.specs.Over.{over, take-over}
use Rattle.laws.specs.Tail.{head_length}
use Rattle.theorems.specs.Unions.{right_le}
use Rattle.cone.specs.View.{cone_of, sources_different, rows_fit, view_sources, view_rows}
use Rattle.support.specs.Support.{union_length}
use Rattle.compose.specs.Basis.{Room}
use Rattle.compose.proofs.gate_truths.Goals as goal
use Rattle.compose.proofs.gate_truths.Goals.{After-rows_of, After-rows_of-2, Start}

-- `compose::gate_truths` meets its contract, from what its calls ensure.
room : (c : Start) → Room (length c.args.support.now) c.args.xs.now c.args.ys.now c.args.truth.now
room c = c.requires.1.1

-- each cone's rows are no more than the union's
left_rows : (c : Start) → 2 ^ c.args.left.n ≤ 2 ^ length c.args.support.now
left_rows c = pow_mono (omega (arith, ap length c.requires.0, union_length (cone_of c.args.left).support (cone_of c.args.right).support, view_sources c.args.left))

right_rows : (c : Start) → 2 ^ c.args.right.n ≤ 2 ^ length c.args.support.now
right_rows c =
    pow_mono (omega (arith, ap length c.requires.0, right_le (cone_of c.args.left).support (cone_of c.args.right).support (sources_different c.args.right), view_sources c.args.right))

lefts_in : (c : After-rows_of) → c.rows_of.result ≤ length c.truths_of.new.truth
lefts_in c = omega (arith, c.rows_of.ensures, rows_fit c.args.left, c.truths_of.auto.truth)

rights_in : (c : After-rows_of-2) → c.rows_of-2.result ≤ length c.truths_of-2.new.truth
rights_in c = omega (arith, c.rows_of-2.ensures, rows_fit c.args.right, c.truths_of-2.auto.truth)

taken : (t d l : List ℕ) (n : ℕ) → l ≡ over t d → length t ≡ n → take n l ≡ t
taken t d l n e h = rw e (take-over t d n h)

pub truths_of-requires : goal.truths_of-requires
truths_of-requires c = (le_trans (left_rows (goal.at.truths_of-requires c).Start) (room (goal.at.truths_of-requires c).Start).x, rows_fit c.args.left)

pub truths_of-requires-2 : goal.truths_of-requires-2
truths_of-requires-2 c = (le_trans (right_rows (goal.at.truths_of-requires-2 c).Start) (room (goal.at.truths_of-requires-2 c).Start).y, rows_fit c.args.right)

pub slice_bounds-lefts-end : goal.slice_bounds-lefts-end
slice_bounds-lefts-end c = lefts_in (goal.at.slice_bounds-lefts-end c).After-rows_of

pub slice_bounds-lefts-end-2 : goal.slice_bounds-lefts-end-2
slice_bounds-lefts-end-2 c = head_length _ c.rows_of.result (lefts_in (goal.at.slice_bounds-lefts-end-2 c).After-rows_of)

pub slice_bounds-rights-end : goal.slice_bounds-rights-end
slice_bounds-rights-end c = rights_in (goal.at.slice_bounds-rights-end c).After-rows_of-2

pub slice_bounds-rights-end-2 : goal.slice_bounds-rights-end-2
slice_bounds-rights-end-2 c = head_length _ c.rows_of-2.result (rights_in (goal.at.slice_bounds-rights-end-2 c).After-rows_of-2)

pub composed_truth-requires-clause-truths : goal.composed_truth-requires-clause-truths
composed_truth-requires-clause-truths c = (
  taken (cone_of c.args.left).truth _ _ c.rows_of.result c.truths_of.ensures.1 (view_rows c.args.left ∙ sym c.rows_of.ensures),
  taken (cone_of c.args.right).truth _ _ c.rows_of-2.result c.truths_of-2.ensures.1 (view_rows c.args.right ∙ sym c.rows_of-2.ensures),
)
