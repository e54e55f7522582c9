use Rattle.std.proofs.Common.{◌∙◌, rules}
use Rattle.edition.specs.Reading.{second, second_text}
use Rattle.edition.proofs.read_edition_2.Goals as goal

pub returns-clause-is : goal.returns-clause-is
returns-clause-is c = c.take_lines.ensures.is second (λ before l x after p. search rules) ∙ second_text c.args.text.now
