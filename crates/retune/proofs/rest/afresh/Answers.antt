use Rattle.std.proofs.Common.{ap, ◌∙◌}
use Rattle.rules.specs.Mapper.{answer_with}
use Rattle.mapper.specs.Asked.{inputs_asked}
use Rattle.retune.specs.First.{used_circuit, started_reached, afresh_is, afresh_begun}
use Rattle.retune.specs.Reply.{is_sound}
use Rattle.retune.proofs.rest.afresh.Goals as goal

pub valid_settings-s-requires : goal.valid_settings-s-requires
valid_settings-s-requires c = (is_sound c.requires.read).settings.limits

pub start-requires : goal.start-requires
start-requires c = inputs_asked c.args.circuit.now (is_sound c.requires.read)

pub map_rest-requires-clause-sound : goal.map_rest-requires-clause-sound
map_rest-requires-clause-sound c = used_circuit _ _ c.args.circuit.now c.valid_settings-s.ensures (is_sound c.requires.read)

pub map_rest-requires-clause-reached : goal.map_rest-requires-clause-reached
map_rest-requires-clause-reached c = started_reached _ _ c.args.circuit.now c.valid_settings-s.ensures c.start.ensures

pub returns-clause-is : goal.returns-clause-is
returns-clause-is c = c.map_rest.ensures.is ∙ ap (answer_with _) (afresh_is _ _ c.args.circuit.now c.valid_settings-s.ensures c.start.ensures)

pub returns-clause-begun : goal.returns-clause-begun
returns-clause-begun c = afresh_begun _ _ c.args.circuit.now c.valid_settings-s.ensures c.start.ensures _ c.map_rest.ensures.begun
