use Rattle.std.proofs.Common.{◌∙◌, sym, ap₂, true≢false}
use Rattle.rules.specs.Network.{LutNode, Bootstrap}
use Rattle.retuning.specs.GoodState.{GoodNode}
use Rattle.restore_nodes.specs.Cells.{boot_source, boot_table}
use Rattle.restore_nodes.specs.Made.{small_all}
use Rattle.restore_nodes.proofs.read.read_boot.Goals as goal

pub returns-then-not-is_of_bits-clause-complete : goal.returns-then-not-is_of_bits-clause-complete
unfolding GoodNode
returns-then-not-is_of_bits-clause-complete c =
    λ i table h e. true≢false (sym (c.is_of_bits.ensures.1 (small_all table _ (boot_table c.args.cell.now i table e) h.2)) ∙ c.if-not-is_of_bits.true)

pub returns-clause-complete : goal.returns-clause-complete
returns-clause-complete c =
    λ i table h e. c.of_table.ensures ∙ ap₂ {C = LutNode} Bootstrap (c.number-source.ensures.is ∙ boot_source c.args.cell.now i table e) (boot_table c.args.cell.now i table e)
