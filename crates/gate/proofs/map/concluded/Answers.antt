use Rattle.gate.specs.GateSteps.{mapped_switched, mapped_kept}
use Rattle.gate.proofs.map.concluded.Goals as goal

-- `gate::map::concluded` meets its contract.
pub returns-then-sides-clause-is : goal.returns-then-sides-clause-is
returns-then-sides-clause-is c store = mapped_switched store c.args.sides c.args.cone _ _ c.if-sides.true c.update.ensures.is c.update-then-sides.ensures.is

pub returns-else-sides-clause-is : goal.returns-else-sides-clause-is
returns-else-sides-clause-is c store = mapped_kept store c.args.sides c.args.cone _ _ c.if-sides.false c.update-else-sides.ensures.is c.update-else-sides-2.ensures.is
