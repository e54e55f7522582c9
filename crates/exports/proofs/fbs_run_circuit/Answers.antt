use Rattle.exports.specs.Laws.{run-answered}
use Rattle.exports.proofs.fbs_run_circuit.Goals as goal

pub returns : goal.returns
returns c = run-answered _ _ _ _ c.from.ensures c.run_circuit.ensures
