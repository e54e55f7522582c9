use Rattle.std.proofs.Common.{Result, ◌+◌, ◌≤◌, length}
use Rattle.rules.specs.declared.Reason.{Reason}
use Rattle.network_judge.specs.View.{prefix_of}
use Rattle.network.specs.Reading.{LineReader, Reads, Takes}
use Rattle.network.proofs.take_lines.Given as goal

abbrev pub invariant-loop-rest : goal.invariant-loop-rest
invariant-loop-rest g l =
    (l.line + length l.rest ≤ length l.text + 1)
    × ((r : LineReader) → ((before : _) (b : _) (x : Result (Unit {0}) Reason) (after : _) → goal.F-post g l.take before b x after → Takes r before.now b.now x after.now)
    → Reads r l.text l.line (prefix_of l.network) l.rest)

abbrev pub decreases-loop-rest : goal.decreases-loop-rest
decreases-loop-rest g l = length l.rest
