use Rattle.std.proofs.Common.{map}
use Rattle.laws.specs.Front.{Filling}
use Rattle.workers.specs.Begun.{tick_in}
use Rattle.workers.proofs.put_starts.Given as goal

abbrev pub invariant-loop-k : goal.invariant-loop-k
invariant-loop-k l = Filling (map (tick_in l.begun) l.boots) l.initial.starts l.starts l.k
