use Rattle.std.proofs.Common.{arith}
use Rattle.network.specs.Reading.{reads_start}
use Rattle.network.proofs.take_lines.Goals as goal

pub loop-rest-init : goal.loop-rest-init
loop-rest-init g c = (omega arith, λ r t. reads_start r c.args.text.now c.clear.new.self c.clear.ensures)
