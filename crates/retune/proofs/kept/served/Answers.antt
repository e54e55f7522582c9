use Rattle.std.proofs.Common.{refl}
use Rattle.retune.specs.First.{used_circuit}
use Rattle.retune.specs.Reply.{is_sound}
use Rattle.retune.specs.Rest.{begun_left_few}
use Rattle.retune.specs.Served.{SafeOrNone, continued_safe, none_serves, state_serves}
use Rattle.retune.proofs.kept.served.Goals as goal

pub valid_settings-s-requires : goal.valid_settings-s-requires
valid_settings-s-requires c = (is_sound c.requires.read).settings.limits

pub restore-requires-clause-sound : goal.restore-requires-clause-sound
restore-requires-clause-sound c = is_sound c.requires.read

pub returns-then-not-restore-clause-served : goal.returns-then-not-restore-clause-served
returns-then-not-restore-clause-served c = λ u. none_serves _ _ _ _ _ _ _ c.if-not-restore.true c.requires.none (λ st stands. (c.restore.ensures.right st stands).0)

pub returns-then-not-restore-clause-safe : goal.returns-then-not-restore-clause-safe
unfolding SafeOrNone
returns-then-not-restore-clause-safe c = refl

pub continued-requires-clause-sound : goal.continued-requires-clause-sound
continued-requires-clause-sound c = used_circuit _ _ c.args.circuit.now c.valid_settings-s.ensures (is_sound c.requires.read)

pub returns-clause-served : goal.returns-clause-served
returns-clause-served c = λ u.
    let t = c.restore.ensures.told u c.if-not-restore.false in
    state_serves _ _ _ c.valid_settings-s.ensures c.requires.read t.0 _ t.1.0 t.1.1 _ _ _ _ c.requires.none c.continued.ensures.begun _ c.continued.ensures.is

pub returns-clause-safe : goal.returns-clause-safe
returns-clause-safe c = continued_safe _ _ _ _ c.continued.ensures.is

pub returns-clause-few : goal.returns-clause-few
returns-clause-few c = begun_left_few _ _ _ _ _ (is_sound c.requires.read).parts.gates_fit c.requires.none c.continued.ensures.begun
