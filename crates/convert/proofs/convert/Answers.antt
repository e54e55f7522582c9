use Rattle.std.proofs.Common.{rules}
use Rattle.convert.specs.Entry.{refused_is, plain_is, second_is, plain-turns, small_limit}
use Rattle.network.specs.View.{network_of}
use Rattle.convert.proofs.convert.Goals as goal

pub returns-in_err-net : goal.returns-in_err-net
returns-in_err-net c = refused_is c.args.text.now c.args.out.now _ c.from_residual.result (search rules) c.in_err-net.ensures.is

pub to_plain-requires-clause-limit : goal.to_plain-requires-clause-limit
to_plain-requires-clause-limit c = small_limit c.args.text.now c.in_ok-net.net c.read.new.network c.in_ok-net.ensures.is

pub to_second-requires-clause-limit : goal.to_second-requires-clause-limit
to_second-requires-clause-limit c = small_limit c.args.text.now c.in_ok-net.net c.read.new.network c.in_ok-net.ensures.is

pub to_second-requires-clause-turn : goal.to_second-requires-clause-turn
to_second-requires-clause-turn c =
    plain-turns c.args.text.now c.in_ok-net.net c.read.new.network c.in_ok-net.ensures.is c.is_edition_2.ensures c.if-is_edition_2.false

pub returns-then-is_edition_2 : goal.returns-then-is_edition_2
returns-then-is_edition_2 c =
    plain_is c.args.text.now (network_of c.in_ok-net.net c.read.new.network) c.in_ok-net.ensures.is c.is_edition_2.ensures _ c.args.out.now c.if-is_edition_2.true c.to_plain.ensures

pub returns-else-is_edition_2 : goal.returns-else-is_edition_2
returns-else-is_edition_2 c =
    second_is c.args.text.now (network_of c.in_ok-net.net c.read.new.network) c.in_ok-net.ensures.is c.is_edition_2.ensures _ c.args.out.now c.if-is_edition_2.false c.to_second.ensures
