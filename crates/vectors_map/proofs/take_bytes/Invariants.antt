use Rattle.std.proofs.Common.{◌≡◌, drop}
use Rattle.framing.specs.Feeding.{state_with, fed_all}
use Rattle.vectors_map.proofs.take_bytes.Given as goal

-- What is left of the bytes leads to the same state.
abbrev pub invariant-loop-b : goal.invariant-loop-b
invariant-loop-b g l = fed_all (state_with l.feed l.job) (drop l.b-index l.bytes) ≡ fed_all (state_with l.fn.feed l.fn.job) l.bytes
