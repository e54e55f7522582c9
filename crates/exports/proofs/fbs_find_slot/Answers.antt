use Rattle.std.proofs.Common.{ap, ap₂, ◌∙◌, to_z-of_z}
use Rattle.rules.specs.Phase.{slot_answer}
use Rattle.exports.specs.Numbers.{slot_numbers}
use Rattle.exports.proofs.fbs_find_slot.Goals as goal

pub returns : goal.returns
returns c =
    c.from.ensures
    ∙ ap slot_numbers (c.slot.ensures ∙ ap₂ (slot_answer c.args.p) (to_z-of_z c.ranges.value) (to_z-of_z c.ranges.error))
