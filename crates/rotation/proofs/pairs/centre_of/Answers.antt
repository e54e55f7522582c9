use Rattle.std.proofs.Common.{sym, ◌∙◌}
use Rattle.laws.specs.Test.{is_T}
use Rattle.theorems.specs.Centres.{centre_of_none}
use Rattle.rotation.proofs.pairs.centre_of.Goals as goal

-- `rotation::pairs::centre_of` meets its contract.
pub centre-requires : goal.centre-requires
centre-requires c = record { of_bits = c.requires; rotated = is_T _ (sym c.is_fbs_table_valid.ensures ∙ c.if-is_fbs_table_valid.true) }

pub returns-else-is_fbs_table_valid : goal.returns-else-is_fbs_table_valid
returns-else-is_fbs_table_valid c = sym (centre_of_none _ _ (sym c.is_fbs_table_valid.ensures ∙ c.if-is_fbs_table_valid.false))
