use Rattle.std.proofs.Common.{◌≡◌, rules, length}
use Rattle.laws.specs.Made.{mapped}
use Rattle.rules.specs.declared.Entry.TheVariants.{Zero}
use Rattle.rotation.specs.Entries.{number_of_entry}
use Rattle.rotation.proofs.pairs.numbers_of.Goals as goal

pub returns : goal.returns
returns c =
    let long : length c.args.known ≡ 32 = search rules in
    mapped number_of_entry (λ x y q k. search rules) c.args.known c.map.result 32 Zero 0 long c.map.ensures.items
