use Rattle.std.proofs.Common.{◌≡◌, drop}
use Rattle.framing.specs.Feeding.{state_with, fed_all}
use Rattle.service.proofs.Service.take_chunk.Given as goal

-- The rest of the chunk leads from here where the whole chunk leads from the start.
abbrev pub invariant-loop-b : goal.invariant-loop-b
invariant-loop-b g l = fed_all (state_with l.self.feed l.self.job) (drop l.b-index l.chunk) ≡ fed_all (state_with l.initial.self.feed l.initial.self.job) l.chunk
