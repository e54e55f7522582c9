use Rattle.std.proofs.Common.{◌∙◌, arith}
use Rattle.restore_nodes.specs.Cells.{term_coef, term_node}
use Rattle.restore_nodes.specs.Made.{term_good, term_same}
use Rattle.restore_nodes.proofs.read.read_term.Goals as goal

pub returns-clause-sound : goal.returns-clause-sound
returns-clause-sound c = term_good c.in_ok-coef.coef c.in_ok-coef.ensures.sound c.number-node.result c.args.count (omega arith)

pub returns-clause-complete : goal.returns-clause-complete
returns-clause-complete c =
    λ t h e. term_same c.in_ok-coef.coef c.in_ok-coef.ensures.sound c.number-node.result t (c.in_ok-coef.ensures.complete t.coef h.coef (term_coef c.args.bytes.now t e))
    (c.number-node.ensures.is ∙ term_node c.args.bytes.now t e)
