use Rattle.std.proofs.Common.{◌≡◌, ◌+◌, ◌*◌, ◌≤◌, nat_abs}
use Rattle.rules.specs.Network.{sum_from}
use Rattle.nodes.specs.View.{terms_seen}
use Rattle.network_run.specs.Value.{sum_at}
use Rattle.network_run.proofs.value.sum_of.Given as goal

abbrev pub invariant-loop-term : goal.invariant-loop-term
invariant-loop-term l =
    (nat_abs l.sum ≤ 31 + 7905 * l.term-index)
    × (sum_from l.values l.constant (terms_seen l.terms) ≡ sum_at l.values l.terms l.sum l.term-index)
