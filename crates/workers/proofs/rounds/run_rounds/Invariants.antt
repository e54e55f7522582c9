use Rattle.nodes.specs.Store.{store_of}
use Rattle.workers.specs.Rounds.{Round}
use Rattle.workers.proofs.rounds.run_rounds.Given as goal

abbrev pub invariant-loop-round : goal.invariant-loop-round
invariant-loop-round l = Round (store_of l.store) l.workers l.ticks l.round l.begun
