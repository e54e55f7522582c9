use Rattle.std.proofs.Common.{◌≡◌}
use Rattle.nodes.specs.Store.{store_of}
use Rattle.workers.specs.Begun.{begun_in}
use Rattle.workers.specs.Boots.{taken_to}
use Rattle.workers.specs.Ready.{ready_by}
use Rattle.workers.proofs.rounds.take_ready.Given as goal

abbrev pub invariant-loop-boot : goal.invariant-loop-boot
invariant-loop-boot l = l.taken.items ≡ taken_to (ready_by (store_of l.store) (begun_in l.begun)) l.workers l.boots l.boot-index
