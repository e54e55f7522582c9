use Rattle.std.proofs.Common.{rules}
use Rattle.mapper.specs.Asked.{gates_asked, outputs_few, outputs_asked}
use Rattle.mapper.specs.Finish.{finish_is, finishable}
use Rattle.mapper.proofs.finish.Goals as goal

pub map_outputs-outputs-requires-clause-wired : goal.map_outputs-outputs-requires-clause-wired
map_outputs-outputs-requires-clause-wired c = ((gates_asked c.args.circuit.now c.requires.sound).few, search rules)

pub map_outputs-outputs-requires-clause-room : goal.map_outputs-outputs-requires-clause-room
map_outputs-outputs-requires-clause-room c = (c.requires.room, outputs_few c.args.circuit.now c.requires.sound)

pub map_outputs-outputs-requires-clause-wires : goal.map_outputs-outputs-requires-clause-wires
map_outputs-outputs-requires-clause-wires c = outputs_asked c.args.circuit.now c.requires.sound

pub returns : goal.returns
returns c =
    let is = finish_is _ c.args.circuit.now c.args.store.now c.args.wires.now.items _ _ _ c.deref.ensures.0 c.map_outputs-outputs.ensures.is in
    search (c.conclude.ensures.is, is)

pub conclude-requires : goal.conclude-requires
conclude-requires c =
    finishable _ c.args.circuit.now _ _ _ _ _ c.deref.ensures.0 c.map_outputs-outputs.ensures.is c.requires.sound c.requires.centred c.map_outputs-outputs.ensures.outs
