use Rattle.std.proofs.Common.{◌≡◌, Err, ap, ◌∙◌, rules}
use Rattle.rules.specs.Mapper.{answer_with}
use Rattle.mapper.specs.Asked.{inputs_asked}
use Rattle.retune.specs.First.{used_circuit, first_room, first_good, first_reached, first_begun, first_refused, first_mapped, first_small, first_kept}
use Rattle.retune.specs.Reply.{is_sound}
use Rattle.retune.specs.Served.{refused_begun, kept_begun, first_few, kept_none, refused_answer, rest_circuit}
use Rattle.retune.proofs.rest.keeping.Goals as goal

pub valid_settings-s-requires : goal.valid_settings-s-requires
valid_settings-s-requires c = (is_sound c.requires.read).settings.limits

pub start-requires : goal.start-requires
start-requires c = inputs_asked c.args.circuit.now (is_sound c.requires.read)

pub map_gates-requires-clause-room : goal.map_gates-requires-clause-room
map_gates-requires-clause-room c =
    first_room _ _ c.args.circuit.now c.valid_settings-s.ensures c.start.ensures c.args.place (is_sound c.requires.read) c.requires.place _ c.deref.ensures.0

pub map_gates-requires-clause-good : goal.map_gates-requires-clause-good
map_gates-requires-clause-good c =
    first_good _ _ c.args.circuit.now c.valid_settings-s.ensures c.start.ensures c.args.place (is_sound c.requires.read) c.requires.place _ c.deref.ensures.0

-- one of the first is refused

pub returns-in_err-map_gates-clause-is : goal.returns-in_err-map_gates-clause-is
returns-in_err-map_gates-clause-is c =
    let e : c.from_residual.result ≡ Err c.in_err-map_gates.field-0.0 = search rules in
    let r = first_refused _ _ c.args.circuit.now c.valid_settings-s.ensures c.start.ensures c.args.place _ c.deref.ensures.0 _ c.deref-2.ensures.0 _ _ _ c.map_gates.ensures.is _ c.in_err-map_gates.was in
    refused_answer _ c.args.place _ r _ e _

pub returns-in_err-map_gates-clause-begun : goal.returns-in_err-map_gates-clause-begun
returns-in_err-map_gates-clause-begun c =
    let r = first_refused _ _ c.args.circuit.now c.valid_settings-s.ensures c.start.ensures c.args.place _ c.deref.ensures.0 _ c.deref-2.ensures.0 _ _ _ c.map_gates.ensures.is _ c.in_err-map_gates.was in
    refused_begun _ c.args.place _ _ _ _ r (first_begun _ _ c.args.circuit.now c.valid_settings-s.ensures c.start.ensures c.args.place _ c.deref.ensures.0 _ c.deref-2.ensures.0 _ c.map_gates.ensures.begun)

pub returns-in_err-map_gates-clause-kept : goal.returns-in_err-map_gates-clause-kept
returns-in_err-map_gates-clause-kept c =
    let r = first_refused _ _ c.args.circuit.now c.valid_settings-s.ensures c.start.ensures c.args.place _ c.deref.ensures.0 _ c.deref-2.ensures.0 _ _ _ c.map_gates.ensures.is _ c.in_err-map_gates.was in
    kept_none _ c.args.place _ _ r _

-- their state is kept

pub keep-requires-clause-small : goal.keep-requires-clause-small
keep-requires-clause-small c = first_small _ c.args.circuit.now c.args.place _ c.deref-3.ensures.0 _ c.deref.ensures.0 _ c.deref-4.ensures.0 (is_sound c.requires.read)

pub map_rest-requires-clause-sound : goal.map_rest-requires-clause-sound
map_rest-requires-clause-sound c = used_circuit _ _ c.args.circuit.now c.valid_settings-s.ensures (is_sound c.requires.read)

pub map_rest-requires-clause-reached : goal.map_rest-requires-clause-reached
map_rest-requires-clause-reached c =
    first_reached _ _ c.args.circuit.now c.valid_settings-s.ensures c.start.ensures c.args.place (is_sound c.requires.read) c.requires.place _ c.deref.ensures.0 c.in_ok-map_gates.ensures.works

pub map_rest-requires-clause-few : goal.map_rest-requires-clause-few
map_rest-requires-clause-few c =
    first_few _ c.args.place (is_sound c.requires.read).parts.gates_fit c.requires.few
    (first_begun _ _ c.args.circuit.now c.valid_settings-s.ensures c.start.ensures c.args.place _ c.deref.ensures.0 _ c.deref-2.ensures.0 _ c.map_gates.ensures.begun)

pub returns-clause-is : goal.returns-clause-is
returns-clause-is c =
    let m = first_mapped _ _ c.args.circuit.now c.valid_settings-s.ensures c.start.ensures c.args.place _ c.deref.ensures.0 _ c.deref-2.ensures.0 _ _ _ c.map_gates.ensures.is _ c.in_ok-map_gates.was in
    c.map_rest.ensures.is ∙ ap (answer_with _) (rest_circuit _ c.args.place _ m c.valid_settings-s.ensures)

pub returns-clause-begun : goal.returns-clause-begun
returns-clause-begun c =
    let m = first_mapped _ _ c.args.circuit.now c.valid_settings-s.ensures c.start.ensures c.args.place _ c.deref.ensures.0 _ c.deref-2.ensures.0 _ _ _ c.map_gates.ensures.is _ c.in_ok-map_gates.was in
    kept_begun _ c.args.place _ _ _ _ m c.valid_settings-s.ensures
    (first_begun _ _ c.args.circuit.now c.valid_settings-s.ensures c.start.ensures c.args.place _ c.deref.ensures.0 _ c.deref-2.ensures.0 _ c.map_gates.ensures.begun)
    c.map_rest.ensures.begun

pub returns-clause-kept : goal.returns-clause-kept
returns-clause-kept c =
    let m = first_mapped _ _ c.args.circuit.now c.valid_settings-s.ensures c.start.ensures c.args.place _ c.deref.ensures.0 _ c.deref-2.ensures.0 _ _ _ c.map_gates.ensures.is _ c.in_ok-map_gates.was in
    first_kept _ c.args.circuit.now c.args.place _ c.deref-3.ensures.0 _ c.deref.ensures.0 _ c.deref-4.ensures.0 _ _ _ c.deref-5.ensures.0 m _ _ c.keep.ensures
