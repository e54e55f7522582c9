use Rattle.std.proofs.Common.{rules}
use Rattle.support.specs.Support.{union_count}
use Rattle.support.proofs.union_support_size.Goals as goal

-- `support::union_support_size` meets its contract.
pub returns : goal.returns
returns c = union_count _ _ _ (search rules)
