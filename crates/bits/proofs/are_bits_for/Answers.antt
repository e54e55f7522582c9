use Rattle.std.proofs.Common.{rules}
use Rattle.bits.specs.Bits.{all_tested}
use Rattle.bits.proofs.are_bits_for.Goals as goal

-- `bits::are_bits_for` meets its contract.
pub returns-then-bits-n : goal.returns-then-bits-n
returns-then-bits-n c = all_tested _ _ _ c.if-bits-n.true (search rules)
