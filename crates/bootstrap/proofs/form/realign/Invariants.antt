use Rattle.nodes.specs.Store.{store_of}
use Rattle.bootstrap.specs.FormWalk.{Walked}
use Rattle.bootstrap.proofs.form.realign.Given as goal

abbrev pub invariant-loop-i : goal.invariant-loop-i
invariant-loop-i l = Walked l.s (store_of l.store) l.c l.i l.best
