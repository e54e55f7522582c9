use Rattle.std.proofs.Common.{refl, sym, subst, take}
use Rattle.merged_rows.specs.EnergyRows.{InRows, Small}
use Rattle.cone.specs.View.{cone_of}
use Rattle.attempt.specs.PairTrial.{trial_framed, trial_in_rows, trial_moments, trial_ready, trial_attempted, trial_small, trial_stored}
use Rattle.attempt.proofs.best_pair.Goals as goal
use Rattle.attempt.proofs.best_pair.Goals.{After-compact_rows-n}

-- `attempt::best_pair` meets its contract: the rows that stand for all rows are what the search asks for.
in_rows : (c : After-compact_rows-n) → InRows c.compact_rows-n.result c.compact_rows-n.new.xs c.compact_rows-n.new.ys c.compact_rows-n.new.counts
in_rows c =
    let A = c.args in
    trial_in_rows A.basis.now A.rows A.xs.now A.ys.now A.truth.now c.requires.1.0 c.compact_rows-n.result c.compact_rows-n.new.xs c.compact_rows-n.new.ys c.compact_rows-n.new.truth c.compact_rows-n.new.counts c.compact_rows-n.ensures.same c.compact_rows-n.ensures.moved

pub compact_rows-n-requires : goal.compact_rows-n-requires
compact_rows-n-requires c =
    let A = c.args in
    trial_framed A.basis.now A.rows A.xs.now A.ys.now A.truth.now c.requires.1.0 c.frame_of.result _ c.frame_of.ensures refl

pub energy_moments-requires : goal.energy_moments-requires
energy_moments-requires c = in_rows (goal.at.energy_moments-requires c).After-compact_rows-n

pub invariant_of-context : goal.invariant_of-context
invariant_of-context c =
    let A = c.args in
    let l = c.requires.0 in
    record {
      narrow = trial_small A.s A.store.now l.left l.right A.basis.now l.trial;
      small = subst Small (sym c.energy_moments.ensures) (trial_moments A.basis.now A.rows A.xs.now A.ys.now A.truth.now c.requires.1.0 c.compact_rows-n.result c.compact_rows-n.new.xs c.compact_rows-n.new.ys c.compact_rows-n.new.truth c.compact_rows-n.new.counts c.compact_rows-n.ensures.same c.compact_rows-n.ensures.moved);
      stored = trial_stored A.s A.store.now l.left l.right A.basis.now l.trial;
    }

pub find_candidate-requires : goal.find_candidate-requires
find_candidate-requires c =
    let A = c.args in
    trial_ready A.basis.now A.rows A.xs.now A.ys.now A.truth.now c.requires.1.0 c.compact_rows-n.result c.compact_rows-n.new.xs c.compact_rows-n.new.ys c.compact_rows-n.new.truth c.compact_rows-n.new.counts c.compact_rows-n.ensures.same c.compact_rows-n.ensures.moved _ refl

pub returns : goal.returns
returns c left right t =
    let A = c.args in
    c.find_candidate.ensures (cone_of left) (cone_of right) (take A.rows A.truth.now) (take c.compact_rows-n.result c.compact_rows-n.new.counts)
    (trial_attempted A.s A.store.now left right A.basis.now t A.rows A.xs.now A.ys.now A.truth.now c.requires.1.0 c.compact_rows-n.result c.compact_rows-n.new.xs c.compact_rows-n.new.ys c.compact_rows-n.new.truth c.compact_rows-n.new.counts c.compact_rows-n.ensures.same c.requires.1.1 _ c.energy_moments.ensures)
