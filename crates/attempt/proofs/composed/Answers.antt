use Rattle.std.proofs.Common.{◌≡◌, refl, sym, ap, ◌∙◌, Bool, false, List, ℕ, ◌≤◌, ◌<◌, arith, length, get_or, take, pow_pos, get_or-take, Option, Some, None}
use Rattle.std.proofs.Math.Option.{some, map}
use Rattle.laws.specs.Tail.{head_length}
use Rattle.rules.specs.Cone.{constant}
use Rattle.rules.specs.Composition.{union_support, gate_truth, all_equal, merge_cones, find_candidate}
use Rattle.compose.specs.Basis.{few_room}
use Rattle.cone.specs.View.{cone_of}
use Rattle.cone.specs.Sources.{constant_stands}
use Rattle.nodes.specs.Store.{store_of}
use Rattle.scale_pair.specs.declared.score.Score.{Score}
use Rattle.search.specs.Policies.{Finds}
use Rattle.attempt.specs.Merged.{merged_by}
use Rattle.attempt.specs.Tried.{tried_of}
use Rattle.attempt.specs.Pair.{Tabled, gated, gated_constant, gated-merged}
use Rattle.attempt.specs.PairTrial.{trial_tabled, trial_mergeable, trial_merged, trial_stands}
use Rattle.attempt.proofs.composed.Goals as goal
use Rattle.attempt.proofs.composed.Goals.{After-rows_of-rows}

-- `attempt::composed` meets its contract.
-- the tables hold what the definition says
tabled : (c : After-rows_of-rows) → let A = c.args in
    Tabled A.basis.now c.rows_of-rows.result c.cone_composition_tables.new.xs c.cone_composition_tables.new.ys c.cone_composition_tables.new.truth
    × (take c.rows_of-rows.result c.cone_composition_tables.new.truth ≡ gate_truth (union_support (cone_of A.left).support (cone_of A.right).support) (cone_of A.left) (cone_of A.right) A.gate)
tabled c =
    let A = c.args in
    trial_tabled A.s A.store.now A.left A.right A.basis.now c.requires.0 A.gate c.requires.1 c.rows_of-rows.result c.rows_of-rows.ensures _ _ _ c.cone_composition_tables.new.xs c.cone_composition_tables.new.ys c.cone_composition_tables.new.truth refl refl refl c.cone_composition_tables.ensures

in_truth : (c : After-rows_of-rows) → c.rows_of-rows.result ≤ length c.cone_composition_tables.new.truth
in_truth c = let t = (tabled c).0 in omega (arith, t.t_long, t.few)

some_row : (c : After-rows_of-rows) → 0 < c.rows_of-rows.result
some_row c = omega (arith, c.rows_of-rows.ensures, pow_pos c.args.basis.now.n)

-- whether all truths are equal
equal_is : (r : Bool) (ts gate : List ℕ) → r ≡ all_equal ts → ts ≡ gate → all_equal gate ≡ r
equal_is r ts gate e f = sym (e ∙ ap all_equal f)

pub cone_composition_tables-requires : goal.cone_composition_tables-requires
cone_composition_tables-requires c =
    let t = c.requires.0 in (t.over, few_room c.args.basis.now.n _ _ _ c.args.basis.now.few refl refl refl)

pub slice_bounds-truth-end : goal.slice_bounds-truth-end
slice_bounds-truth-end c = in_truth (goal.at.slice_bounds-truth-end c).After-rows_of-rows

pub slice_bounds-all_equal-end : goal.slice_bounds-all_equal-end
slice_bounds-all_equal-end c = head_length c.cone_composition_tables.new.truth c.rows_of-rows.result (in_truth (goal.at.slice_bounds-all_equal-end c).After-rows_of-rows)

pub constant-requires : goal.constant-requires
constant-requires c = (tabled (goal.at.constant-requires c).After-rows_of-rows).0.bits 0 (some_row (goal.at.constant-requires c).After-rows_of-rows)

pub returns-then-all_equal : goal.returns-then-all_equal
returns-then-all_equal c =
    let A = c.args in
    let T = gate_truth (union_support (cone_of A.left).support (cone_of A.right).support) (cone_of A.left) (cone_of A.right) A.gate in
    let first : get_or c.cone_composition_tables.new.truth 0 0 ≡ get_or T 0 0 = sym (get_or-take c.rows_of-rows.result _ 0 0 (some_row (goal.at.returns-then-all_equal c).After-rows_of-rows)) ∙ ap (λ l. get_or l 0 0) (tabled (goal.at.returns-then-all_equal c).After-rows_of-rows).1 in record {
      is = ap some (c.constant.ensures ∙ ap constant first)
          ∙ gated_constant A.s.settings (store_of A.store.now) (cone_of A.left) (cone_of A.right) A.gate (equal_is _ _ _ c.all_equal.ensures (tabled (goal.at.returns-then-all_equal c).After-rows_of-rows).1 ∙ c.if-all_equal.true);
      stands = constant_stands _ c.constant.result _ c.constant.ensures;
    }

pub best_pair-requires : goal.best_pair-requires
best_pair-requires c =
    (record { left = c.args.left; right = c.args.right; trial = c.requires.0 }, ((tabled (goal.at.best_pair-requires c).After-rows_of-rows).0, sym c.all_equal.ensures ∙ c.if-all_equal.false))

-- what is made of the pair, or of none, is the definition's
gated_by : (c : After-rows_of-rows) → let A = c.args in (r : Bool) → r ≡ all_equal (take c.rows_of-rows.result c.cone_composition_tables.new.truth) → r ≡ false
    → (o : Option Score) → Finds A.s.settings (store_of A.store.now) (cone_of A.left) (cone_of A.right) (take c.rows_of-rows.result c.cone_composition_tables.new.truth) o
    → merged_by A.basis.now o ≡ gated A.s.settings (store_of A.store.now) (cone_of A.left) (cone_of A.right) A.gate
gated_by c r e h o f =
    let A = c.args in
    let nodes = store_of A.store.now in
    let t = tabled c in
    trial_merged A.s A.store.now A.left A.right A.basis.now c.requires.0 c.rows_of-rows.result c.cone_composition_tables.new.xs c.cone_composition_tables.new.ys c.cone_composition_tables.new.truth t.0 nodes o f
    ∙ ap (λ l. map merge_cones (find_candidate A.s.settings nodes (union_support (cone_of A.left).support (cone_of A.right).support) (cone_of A.left) (cone_of A.right) l)) t.1
    ∙ gated-merged A.s.settings nodes (cone_of A.left) (cone_of A.right) A.gate (equal_is _ _ _ e t.1 ∙ h)

pub returns-in_err-best-clause-is : goal.returns-in_err-best-clause-is
unfolding merged_by
returns-in_err-best-clause-is c = ap tried_of c.from_residual.ensures ∙ gated_by (goal.at.returns-in_err-best-clause-is c).After-rows_of-rows _ c.all_equal.ensures c.if-all_equal.false None (c.in_err-best.ensures c.args.left c.args.right c.requires.0)

pub merged-requires : goal.merged-requires
merged-requires c =
    let A = c.args in
    trial_mergeable A.s A.store.now A.left A.right A.basis.now c.requires.0 c.rows_of-rows.result c.cone_composition_tables.new.xs c.cone_composition_tables.new.ys c.cone_composition_tables.new.truth (tabled (goal.at.merged-requires c).After-rows_of-rows).0 (store_of A.store.now) _ (c.in_ok-best.ensures A.left A.right c.requires.0) _ refl

pub returns : goal.returns
unfolding merged_by
returns c =
    let A = c.args in record {
      is = ap some c.merged.ensures ∙ gated_by (goal.at.returns c).After-rows_of-rows _ c.all_equal.ensures c.if-all_equal.false (Some c.in_ok-best.best) (c.in_ok-best.ensures A.left A.right c.requires.0);
      stands = trial_stands A.s A.store.now A.left A.right A.basis.now c.requires.0 c.in_ok-best.best c.merged.result c.merged.ensures;
    }
