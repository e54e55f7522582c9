use Rattle.std.proofs.Common.{take}
use Rattle.workers.specs.Begun.{Begins}
use Rattle.workers.proofs.rounds.begin.Given as goal

abbrev pub invariant-loop-boot : goal.invariant-loop-boot
invariant-loop-boot l = Begins l.tick (take l.boot-index l.taken) l.initial.begun l.begun
