use Rattle.vectors_cones.specs.Made.{all_below}
use Rattle.vectors_cones.proofs.show_measures.Goals as goal

pub norm2-requires : goal.norm2-requires
norm2-requires g c = all_below c.args.inputs.now c.args.cone
