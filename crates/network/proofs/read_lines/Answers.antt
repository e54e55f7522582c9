use Rattle.std.proofs.Common.{◌∙◌, rules}
use Rattle.network.specs.Reading.{plain, plain_text}
use Rattle.network.proofs.read_lines.Goals as goal

pub returns-clause-is : goal.returns-clause-is
returns-clause-is c =
    c.take_lines.ensures.is (plain c.args.judge) (λ before l x after p. search rules) ∙ plain_text c.args.judge c.args.text.now
