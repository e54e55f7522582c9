use Rattle.std.proofs.Common.{rules}
use Rattle.gates.specs.Start.{input_fine}
use Rattle.gates.proofs.start.put_input.Goals as goal

pub push-requires : goal.push-requires
push-requires c = (c.requires.0, input_fine _ _ _ c.of_input.ensures c.requires.1 (λ k. search rules))
