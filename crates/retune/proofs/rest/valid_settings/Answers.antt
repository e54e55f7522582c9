use Rattle.std.proofs.Common.{ap, ◌∙◌}
use Rattle.rules.specs.CircuitText.{in_limits}
use Rattle.mapped.proofs.Whole.{used_limits}
use Rattle.retune.proofs.rest.valid_settings.Goals as goal

pub invariant_of-result : goal.invariant_of-result
invariant_of-result c = record { limits = ap in_limits c.used_settings.ensures ∙ used_limits _ c.requires }
