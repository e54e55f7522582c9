use Rattle.std.proofs.Common.{ap, ◌∙◌, replicate, to_z-of_z}
use Rattle.rules.specs.declared.Entry.TheVariants.{Unknown}
use Rattle.rules.specs.Builder.{enter}
use Rattle.rules.specs.Span.{span}
use Rattle.rotation.specs.Entries.{numbers}
use Rattle.known_rows.specs.Entries.{first_numbers}
use Rattle.known_rows.specs.Rows.{rows_known}
use Rattle.known_rows.proofs.rows.enter.Goals as goal

-- `known_rows::rows::enter` meets its contract.
pub returns : goal.returns
returns c =
    let values = c.args.values.now in
    let truths = c.args.truths.now in
    ap (first_numbers (span values)) c.then_some.ensures
    ∙ rows_known values truths c.requires.narrow c.enter_into.new.known c.enter_into.result
    (c.enter_into.ensures.all ∙ ap (λ l. enter l values truths (numbers (replicate 32 Unknown))) (to_z-of_z c.ranges.low ∙ c.requires.low_value))
