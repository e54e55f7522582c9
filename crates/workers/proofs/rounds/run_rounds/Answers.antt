use Rattle.std.proofs.Common.{arith}
use Rattle.std.proofs.lemmas.Grind.{common_steps}
use Rattle.nodes.specs.Store.{store_of}
use Rattle.workers.specs.Rounds.{round_next}
use Rattle.workers.proofs.rounds.run_rounds.Goals as goal

pub loop-round-preserved : goal.loop-round-preserved
loop-round-preserved c =
    let o = c.loop-round in
    round_next (store_of c.args.store.now) c.args.workers c.args.ticks o.round o.begun o.invariant c.take_ready-taken.result.items c.begin.new.begun c.take_ready-taken.ensures
    (grind (arith, common_steps)) (rw c.deref.ensures.0 at c.begin.ensures)
