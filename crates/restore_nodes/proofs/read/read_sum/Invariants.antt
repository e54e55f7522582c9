use Rattle.restore_nodes.specs.Sums.{Summing}
use Rattle.restore_nodes.proofs.read.read_sum.Given as goal

abbrev pub invariant-loop-k : goal.invariant-loop-k
invariant-loop-k l = Summing l.count l.cell l.k l.sum
