use Rattle.lut.specs.Store.{interns_old, interns_new}
use Rattle.lut.proofs.store.intern.Goals as goal

pub returns-in-Some : goal.returns-in-Some
returns-in-Some c = interns_old _ _ _ _ c.in-Some.ensures

pub returns-in-None : goal.returns-in-None
returns-in-None c = interns_new _ _ _ _ _ c.in-None.ensures c.push.ensures c.len.ensures.0
