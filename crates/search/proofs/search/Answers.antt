use Rattle.std.proofs.Common.{◌≡◌, refl, sym, ap, subst, ◌∙◌, ◌<◌, ◌≤◌, arith, rules, ℤ, pos, nat_abs, ◌+ℤ◌, ◌≤ℤ◌, ◌<ℤ◌, true, false, length, get_or, take, length-set, w32, w64, to_z, of_z, to_z-of_z, Option, None, Some}
use Rattle.std.specs.Int.Signed.{lt_z}
use Rattle.laws.specs.Integer.{plus, minus, ints, add_parts, fits_abs, abs_add, read_back-at}
use Rattle.rotation.specs.Entries.{numbers}
use Rattle.scale_pair.specs.declared.score.Score.{Score}
use Rattle.compose.specs.Basis.{lefts, rights, lefts_long}
use Rattle.cone.specs.Sources.{AllBelow}
use Rattle.nodes.specs.Store.{store_of}
use Rattle.scale_pair.specs.Pair.{Scaling, basis_rows}
use Rattle.search.specs.Search.{Context, context_of, Weighs, Levels, Scored, Merges, step_at, step_of, near_in, walk_all}
use Rattle.search.specs.Steps.{step_is, step_none, step_clashed, step_considered, rows_turn, rows_clash, rows_end, scored, merges, levels}
use Rattle.search.specs.Walk.{walk_row, walk, count_to, row_turn, row_end, walk_turn, walk_end}
use Rattle.search.proofs.search.Goals as goal
use Rattle.search.proofs.search.Goals.{In-pair, In-Some, Start, After-evaluate}

-- ---- a scale z of a range, as the machine holds it
module _ (z end : ℤ) (h : nat_abs end ≤ 33) where
  held : to_z w64 (of_z w64 end) ≡ end
  held = to_z-of_z {w = w64} (fits_abs end (omega (arith, h)))

  before : lt_z z (to_z w64 (of_z w64 end)) ≡ true → z <ℤ end
  before e = let q : lt_z z end ≡ true = rw held at e in omega (arith, ints)

  behind : lt_z z (to_z w64 (of_z w64 end)) ≡ false → end ≤ℤ z
  behind e = let q : lt_z z end ≡ false = rw held at e in omega (arith, ints)

next_is : (z : ℤ) → nat_abs z ≤ 32 → to_z w64 (of_z w64 (z +ℤ pos 1)) ≡ z +ℤ pos 1
next_is z h = to_z-of_z {w = w64} (fits_abs (z +ℤ pos 1) (omega (arith, h, abs_add z (pos 1))))

next-above : (start z : ℤ) → start ≤ℤ z → start ≤ℤ (z +ℤ pos 1)
unfolding plus minus
next-above start z h = omega (arith, ints, add_parts z (pos 1))

abbrev step : Start → ℤ → ℤ → Option Score → Option Score
step c = step_at (context_of c.args.context) c.args.xs.now c.args.ys.now c.args.truth.now

-- the scales of a turn
module _ (c : In-pair) where
  abbrev scale_a : ℤ
  scale_a = to_z w64 c.loop-a.a-bits

  abbrev scale_b : ℤ
  scale_b = to_z w64 c.pair.b-bits

  scales : Scaling scale_a scale_b
  scales =
      let r = c.args.ranges in
      let w = c.requires.1 in
      record {
        first = near_in r.a.start r.a.end scale_a w.a_start w.a_end c.loop-a.invariant.0 (before scale_a r.a.end w.a_end c.loop-a-test.true);
        second = near_in r.b.start r.b.end scale_b w.b_start w.b_end c.pair.invariant.0 (before scale_b r.b.end w.b_end c.pair-test.true);
      }

pub weights_of-weights-requires : goal.weights_of-weights-requires
weights_of-weights-requires c =
    let k = c.args.context in
    (omega (arith, c.sources.ensures.count, k.basis.now.few), subst (AllBelow (length (store_of k.store.now))) (sym c.sources.ensures.are) k.stored)

pub evaluate-requires : goal.evaluate-requires
evaluate-requires c = scales (goal.at.evaluate-requires c).In-pair

module _ (c : After-evaluate) (s : Scaling (to_z w64 c.loop-a.a-bits) (to_z w64 c.pair.b-bits)) where
  abbrev context : Context
  context = context_of c.args.context

  abbrev at_pair : ℤ → ℤ → Option Score → Option Score
  at_pair = step_at context c.args.xs.now c.args.ys.now c.args.truth.now

  -- as many sources as coefficients
  even : length (take c.args.context.basis.now.n c.args.context.basis.now.support) ≡ length (lefts c.args.context.basis.now)
  even = ap length (sym c.sources.ensures.are) ∙ c.sources.ensures.count ∙ sym (lefts_long c.args.context.basis.now)

  weighs : Weighs (store_of c.args.context.store.now) (take c.args.context.basis.now.n c.args.context.basis.now.support) c.weights_of-weights.result
  weighs =
      let first : Weighs (store_of c.args.context.store.now) c.sources.result.now c.weights_of-weights.result = record { long = search rules; are = c.weights_of-weights.ensures } in
      subst (λ l. Weighs (store_of c.args.context.store.now) l c.weights_of-weights.result) c.sources.ensures.are first

  -- one pair more
  turn : (best : Option Score) → best ≡ step_of context c.args.xs.now c.args.ys.now c.args.truth.now c.evaluate.result c.pair.best
      → let next = to_z w64 (of_z w64 (to_z w64 c.pair.b-bits +ℤ pos 1)) in
      let r = c.args.ranges.b in
      (r.start ≤ℤ next) × (walk_row at_pair (to_z w64 c.loop-a.a-bits) next (count_to next r.end) best ≡ walk_row at_pair (to_z w64 c.loop-a.a-bits) r.start (count_to r.start r.end) c.loop-a.best)
  turn best e =
      let a = to_z w64 c.loop-a.a-bits in
      let b = to_z w64 c.pair.b-bits in
      let r = c.args.ranges.b in
      let row : walk_row at_pair a (b +ℤ pos 1) (count_to (b +ℤ pos 1) r.end) best ≡ walk_row at_pair a r.start (count_to r.start r.end) c.loop-a.best =
      ap (walk_row at_pair a (b +ℤ pos 1) (count_to (b +ℤ pos 1) r.end))
      (e ∙ step_is _ _ _ _ _ _ _ _ _ (basis_rows c.args.context.basis.now) even weighs c.evaluate.ensures)
      ∙ row_turn at_pair a b r.end c.pair.best (before b r.end c.requires.1.b_end c.pair-test.true)
      ∙ c.pair.invariant.1 in
      subst (λ n. (r.start ≤ℤ n) × (walk_row at_pair a n (count_to n r.end) best ≡ walk_row at_pair a r.start (count_to r.start r.end) c.loop-a.best))
      (sym (next_is b s.second)) (next-above r.start b c.pair.invariant.0, row)

-- ---- a pair within the limits
module _ (c : In-Some) (scales : Scaling (to_z w64 c.loop-a.a-bits) (to_z w64 c.pair.b-bits)) where
  is_scored : Scored c.in-Some.pair
  is_scored = scored c.args.context _ _ _ scales _ _ c.in-Some.is c.evaluate.ensures

  is_merged : Merges (lefts c.args.context.basis.now) (rights c.args.context.basis.now) c.in-Some.pair
  is_merged = merges c.args.context _ _ _ scales _ _ c.in-Some.is c.evaluate.ensures

  is_level : Levels c.in-Some.pair c.args.xs.now c.args.ys.now c.args.truth.now
  is_level = levels c.args.context _ _ _ scales _ _ c.in-Some.is c.evaluate.ensures _ _ _ c.requires.0

pub pair-preserved-in_default : goal.pair-preserved-in_default
pair-preserved-in_default c =
    turn (goal.at.pair-preserved-in_default c).After-evaluate (scales (goal.at.pair-preserved-in_default c).In-pair) _ (step_none _ _ _ _ _ _ c.in_default.is)

pub level-at-requires : goal.level-at-requires
level-at-requires c =
    let x = read_back-at w32 (get_or c.args.xs.now c.loop-i.i (pos 0)) (omega arith) in
    let y = read_back-at w32 (get_or c.args.ys.now c.loop-i.i (pos 0)) (omega arith) in
    rw (x, y) ((is_level (goal.at.level-at-requires c).In-Some (scales (goal.at.level-at-requires c).In-pair)).level c.loop-i.i c.loop-i-test.true)

pub bounds-known-at : goal.bounds-known-at
bounds-known-at c =
    let x = read_back-at w32 (get_or c.args.xs.now c.loop-i.i (pos 0)) (omega arith) in
    let y = read_back-at w32 (get_or c.args.ys.now c.loop-i.i (pos 0)) (omega arith) in
    rw (c.level-at.ensures, x, y) ((is_level (goal.at.bounds-known-at c).In-Some (scales (goal.at.bounds-known-at c).In-pair)).inside c.loop-i.i c.loop-i-test.true)

pub bounds-known-at-in-loop-i : goal.bounds-known-at-in-loop-i
bounds-known-at-in-loop-i c =
    let x = read_back-at w32 (get_or c.args.xs.now c.loop-i.i (pos 0)) (omega arith) in
    let y = read_back-at w32 (get_or c.args.ys.now c.loop-i.i (pos 0)) (omega arith) in
    rw (c.level-at.ensures, x, y) ((is_level (goal.at.bounds-known-at-in-loop-i c).In-Some (scales (goal.at.bounds-known-at-in-loop-i c).In-pair)).inside c.loop-i.i c.loop-i-test.true)

-- a row that clashes
pub pair-preserved-in_default-with_truth : goal.pair-preserved-in_default-with_truth
pair-preserved-in_default-with_truth c =
    let o = c.loop-i in
    let ready = c.requires.0 in
    let x = read_back-at w32 (get_or c.args.xs.now o.i (pos 0)) (omega arith) in
    let y = read_back-at w32 (get_or c.args.ys.now o.i (pos 0)) (omega arith) in
    let near : c.level-at.result < 32 = rw (c.level-at.ensures, x, y) ((is_level (goal.at.pair-preserved-in_default-with_truth c).In-Some (scales (goal.at.pair-preserved-in_default-with_truth c).In-pair)).inside o.i c.loop-i-test.true) in
    let l : c.level-at.result < length o.known = omega (arith, near, o.invariant.0) in
    let clash =
    rows_clash _ _ _ _ ready.y_long ready.t_long o.i o.known c.loop-i-test.true _ _ _ _ x y c.level-at.ensures refl l _ c.with_truth.result c.with_truth.ensures c.in_default-with_truth.is
    ∙ o.invariant.1 in
    turn (goal.at.pair-preserved-in_default-with_truth c).After-evaluate (scales (goal.at.pair-preserved-in_default-with_truth c).In-pair) _ (step_clashed _ _ _ _ _ _ _ c.in-Some.is None clash refl)

pub loop-i-preserved : goal.loop-i-preserved
loop-i-preserved c =
    let o = c.loop-i in
    let ready = c.requires.0 in
    let x = read_back-at w32 (get_or c.args.xs.now o.i (pos 0)) (omega arith) in
    let y = read_back-at w32 (get_or c.args.ys.now o.i (pos 0)) (omega arith) in
    let near : c.level-at.result < 32 = rw (c.level-at.ensures, x, y) ((is_level (goal.at.loop-i-preserved c).In-Some (scales (goal.at.loop-i-preserved c).In-pair)).inside o.i c.loop-i-test.true) in
    let l : c.level-at.result < length o.known = omega (arith, near, o.invariant.0) in (
      simp length-set o.invariant.0,
      rows_turn _ _ _ _ ready.y_long ready.t_long o.i o.known c.loop-i-test.true _ _ _ _ x y c.level-at.ensures refl l _ c.with_truth.result c.with_truth.ensures _ c.in-Some-with_truth.is
          ∙ o.invariant.1,
    )

pub considered-best-requires : goal.considered-best-requires
considered-best-requires c =
    let s = (goal.at.considered-best-requires c).In-Some in
    let in_range = scales (goal.at.considered-best-requires c).In-pair in
    (is_scored s in_range, is_merged s in_range)

pub pair-preserved : goal.pair-preserved
pair-preserved c =
    let o = c.loop-i in
    let ready = c.requires.0 in
    let entered = rows_end _ _ _ _ ready.y_long ready.t_long o.i (numbers o.known) c.loop-i-test.false ∙ o.invariant.1 in
    turn (goal.at.pair-preserved c).After-evaluate (scales (goal.at.pair-preserved c).In-pair) _
    (c.considered-best.ensures ∙ step_considered _ _ _ _ _ _ _ c.in-Some.is (Some (numbers o.known)) entered _ refl)

pub loop-a-preserved : goal.loop-a-preserved
loop-a-preserved c =
    let o = c.loop-a in
    let q = c.pair in
    let r = c.args.ranges in
    let w = c.requires.1 in
    let s = step (goal.at.loop-a-preserved c).Start in
    let a = to_z w64 o.a-bits in
    let inside = before a r.a.end w.a_end c.loop-a-test.true in
    let near = near_in r.a.start r.a.end a w.a_start w.a_end o.invariant.0 inside in
    let walked : walk s r.b.start (count_to r.b.start r.b.end) (a +ℤ pos 1) (count_to (a +ℤ pos 1) r.a.end) q.best ≡ walk_all s r None =
    ap (walk s r.b.start (count_to r.b.start r.b.end) (a +ℤ pos 1) (count_to (a +ℤ pos 1) r.a.end))
    (sym (row_end s a (to_z w64 q.b-bits) r.b.end q.best (behind (to_z w64 q.b-bits) r.b.end w.b_end c.pair-test.false)) ∙ q.invariant.1)
    ∙ walk_turn s r.b.start (count_to r.b.start r.b.end) a r.a.end o.best inside
    ∙ o.invariant.1 in
    subst (λ n. (r.a.start ≤ℤ n) × (walk s r.b.start (count_to r.b.start r.b.end) n (count_to n r.a.end) q.best ≡ walk_all s r None))
    (sym (next_is a near)) (next-above r.a.start a o.invariant.0, walked)

pub returns : goal.returns
returns c =
    let o = c.loop-a in
    let r = c.args.ranges in
    let a = to_z w64 o.a-bits in
    sym (walk_end (step (goal.at.returns c).Start) r.b.start (count_to r.b.start r.b.end) a r.a.end o.best (behind a r.a.end c.requires.1.a_end c.loop-a-test.false)) ∙ o.invariant.1
