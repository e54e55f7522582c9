use Rattle.retune.specs.Served.{SafeOrNone, place_in, served_is, kept_is, kept_safe, kept_behind}
use Rattle.retune.proofs.retune_at.Goals as goal

pub returns-in-Some-clause-decided : goal.returns-in-Some-clause-decided
returns-in-Some-clause-decided c = λ u. served_is _ _ _ c.requires.read (place_in _ _ c.requires.place) _ _ _ _ (c.in-Some.ensures.served u)

pub returns-in-Some-clause-safe : goal.returns-in-Some-clause-safe
unfolding SafeOrNone
returns-in-Some-clause-safe c = c.in-Some.ensures.safe

pub returns-clause-decided : goal.returns-clause-decided
unfolding SafeOrNone
returns-clause-decided c = λ u.
    kept_is _ _ _ c.requires.read (place_in _ _ c.requires.place) _ _ _ _ _ _ _ c.in_default.ensures.safe (c.in_default.ensures.served u) c.keeping.ensures.is c.keeping.ensures.begun
    c.keeping.ensures.kept

pub returns-clause-safe : goal.returns-clause-safe
unfolding SafeOrNone
returns-clause-safe c = kept_safe _ c.args.place c.args.state.now c.requires.read (place_in _ _ c.requires.place) c.in_default.ensures.safe c.keeping.ensures.is

pub returns-clause-behind : goal.returns-clause-behind
returns-clause-behind c = kept_behind _ _ _ c.requires.read (place_in _ _ c.requires.place) _ c.keeping.ensures.kept
