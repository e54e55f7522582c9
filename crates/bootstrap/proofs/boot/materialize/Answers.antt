use Rattle.std.proofs.Common.{arith}
use Rattle.nodes.specs.Store.{store_few}
use Rattle.bootstrap.specs.Boot.{sum_good, grown_by_one, number_inside, entries_few, made_stands}
use Rattle.bootstrap.proofs.boot.materialize.Goals as goal

pub linear-requires : goal.linear-requires
linear-requires c = (omega arith, sum_good _ _ _ c.requires.1 c.sum_of.ensures)

pub bootstrap-requires : goal.bootstrap-requires
bootstrap-requires c =
    let i = c.linear.ensures in
    let g = grown_by_one i in
    let e = c.span.ensures in record {
      store = (omega (arith, g.1), number_inside i c.in-Node.is);
      known_len_bound = entries_few _ _ e;
    }

pub identity-requires : goal.identity-requires
identity-requires c = omega (arith, number_inside c.bootstrap.ensures c.in-Node-bootstrap.is, store_few c.bootstrap.new.store)

pub returns-clause-stands : goal.returns-clause-stands
returns-clause-stands c =
    made_stands c.args.s _ _ c.requires.1 _ c.sum_of.ensures _ _ c.linear.ensures _ c.in-Node.is _ c.span.ensures _ _ c.bootstrap.ensures _ c.in-Node-bootstrap.is _ c.identity.ensures
