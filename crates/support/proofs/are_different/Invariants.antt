use Rattle.std.proofs.Common.{◌≡◌, length}
use Rattle.rules.specs.NetworkText.{all_different}
use Rattle.support.proofs.are_different.Given as goal

-- No node before those that are left stands twice.
abbrev pub invariant-loop-first : goal.invariant-loop-first
invariant-loop-first l = all_different l.rest ≡ all_different l.nodes

abbrev pub decreases-loop-first : goal.decreases-loop-first
decreases-loop-first l = length l.rest
