use Rattle.vectors_cones.specs.Made.{all_below}
use Rattle.vectors_cones.proofs.judged.Goals as goal

pub validate_cone-requires : goal.validate_cone-requires
validate_cone-requires c = all_below c.args.inputs.now c.args.cone
