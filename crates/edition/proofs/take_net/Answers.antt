use Rattle.std.proofs.Common.{◌≡◌, ◌∙◌, sym, ap, rules, Err, true}
use Rattle.rules.specs.NetworkText.{NetLine}
use Rattle.rules.specs.Refusal.{number_met}
use Rattle.text.specs.Judged.{lowest}
use Rattle.network_text.specs.Lines.{net_of}
use Rattle.network_judge.specs.View.{prefix_of}
use Rattle.network_judge.specs.Conditions.{line_conditions}
use Rattle.network.specs.Added.{holds_net}
use Rattle.edition.specs.Put.{net_number, net_free}
use Rattle.edition.proofs.take_net.Goals as goal
use Rattle.edition.proofs.take_net.Goals.{In_ok-check_net}

pub returns-in_err-check_net-clause-number : goal.returns-in_err-check_net-clause-number
returns-in_err-check_net-clause-number c =
    let e : c.from_residual.result ≡ Err c.in_err-check_net.field-0.0 = search rules in
    ap number_met (e ∙ sym c.in_err-check_net.was) ∙ c.check_net.ensures true (net_of c.args.net) ∙ net_number _ _ c.requires

-- no line stands before it
none_before : (c : In_ok-check_net) → 0 ≡ lowest (line_conditions true (prefix_of c.args.network.now) (NetLine (net_of c.args.net)))
none_before c = sym (ap number_met c.in_ok-check_net.was) ∙ c.check_net.ensures true (net_of c.args.net)

pub invariant_of-network : goal.invariant_of-network
invariant_of-network c = record { holds = holds_net (search rules) c.args.net (net_free c.args.network.now _ (none_before c) c.requires) c.requires }

pub returns-clause-number : goal.returns-clause-number
returns-clause-number c = sym (ap number_met c.in_ok-check_net.was) ∙ c.check_net.ensures true (net_of c.args.net) ∙ net_number _ _ c.requires
