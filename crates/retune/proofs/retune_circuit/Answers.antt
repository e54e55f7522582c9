use Rattle.retune.specs.Safety.{mapped_safe}
use Rattle.retune.specs.Served.{chosen_is, none_chosen, too_short, long_enough}
use Rattle.retune.proofs.retune_circuit.Goals as goal

pub returns-in_default-clause-decided : goal.returns-in_default-clause-decided
returns-in_default-clause-decided c = λ u.
    none_chosen _ _ _ _ _ _ _ c.afresh.ensures.is c.requires.none c.afresh.ensures.begun (chosen_is _ _ _ c.deref.ensures.0 _ c.in_default.ensures)

pub returns-in_default-clause-safe : goal.returns-in_default-clause-safe
returns-in_default-clause-safe c = mapped_safe c.requires.read c.afresh.ensures.is

pub returns-then-state-lt34704-clause-decided : goal.returns-then-state-lt34704-clause-decided
returns-then-state-lt34704-clause-decided c = λ u.
    let a = c.afresh-then-state-lt34704 in
    too_short _ _ _ _ _ _ _ a.ensures.is c.requires.none a.ensures.begun _ (chosen_is _ _ _ c.deref.ensures.0 _ c.in-Some.ensures) c.if-state-lt34704.true

pub returns-then-state-lt34704-clause-safe : goal.returns-then-state-lt34704-clause-safe
returns-then-state-lt34704-clause-safe c = mapped_safe c.requires.read c.afresh-then-state-lt34704.ensures.is

pub returns-clause-decided : goal.returns-clause-decided
returns-clause-decided c = λ u.
    let chosen = chosen_is _ _ _ c.deref.ensures.0 _ c.in-Some.ensures in
    long_enough _ _ _ _ _ chosen c.if-state-lt34704.false _ (c.retune_at.ensures.decided (u _ chosen c.if-state-lt34704.false))
