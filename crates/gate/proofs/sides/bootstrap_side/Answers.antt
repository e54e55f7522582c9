use Rattle.gate.specs.Gate.{asks, booted}
use Rattle.gate.proofs.sides.bootstrap_side.Goals as goal

pub bootstrap_cone-requires : goal.bootstrap_cone-requires
bootstrap_cone-requires c = (asks c.args.cone _ c.requires.1, c.requires.0)

pub returns : goal.returns
returns c = booted c.args.s.settings c.args.store.now c.args.cone _ c.bootstrap_cone.result c.bootstrap_cone.ensures.stands c.bootstrap_cone.ensures.is
