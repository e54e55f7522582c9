use Rattle.std.proofs.Common.{sym, ◌∙◌}
use Rattle.gates.specs.Gates.{forced_yes, forced_no}
use Rattle.gates.proofs.forced.Goals as goal

pub returns-then-is_forced-clause-is : goal.returns-then-is_forced-clause-is
returns-then-is_forced-clause-is c = forced_yes _ _ _ _ _ (sym c.is_forced.ensures ∙ c.if-is_forced.true) c.bootstrap_cone.ensures.is

pub returns-clause-is : goal.returns-clause-is
returns-clause-is c = forced_no _ _ _ _ (sym c.is_forced.ensures ∙ c.if-is_forced.false)
