use Rattle.std.proofs.Common.{◌≡◌, map, rules, get_or}
use Rattle.rules.specs.declared.Entry.TheVariants.{Zero}
use Rattle.cone.specs.Unary.{entry_answered, through, through_fits}
use Rattle.laws.specs.Made.{mapped}
use Rattle.rules.specs.Builder.{entry_of}
use Rattle.cone.specs.View.{cone_of}
use Rattle.cone.proofs.unary.apply_unary.Goals as goal
use Rattle.cone.proofs.unary.apply_unary.Goals.{After-map-known}

-- `cone::unary::apply_unary` meets its contract: each entry is answered.
made : (c : After-map-known) → c.map-known.result ≡ map (entry_answered (entry_of (get_or c.args.answers 0 0)) (entry_of (get_or c.args.answers 1 0))) c.args.c.known
made c =
    mapped (entry_answered (entry_of (get_or c.args.answers 0 0)) (entry_of (get_or c.args.answers 1 0))) (λ x y q k. search rules) c.args.c.known c.map-known.result 32 Zero Zero c.args.c.entries_long c.map-known.ensures.items

pub invariant_of-result : goal.invariant_of-result
invariant_of-result c =
    let f = through_fits c.args.c c.args.answers c.requires c.map-known.result (made (goal.at.invariant_of-result c).After-map-known) in
    record { support_long = c.args.c.support_long; coefs_long = c.args.c.coefs_long; entries_long = search rules; few = f.few; different = f.form.different; near = f.form.near; narrow = f.form.narrow; held = f.held }

pub returns : goal.returns
unfolding cone_of
returns c = through c.args.c c.args.answers c.requires c.map-known.result (made (goal.at.returns c).After-map-known)
