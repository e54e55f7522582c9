-- What the proofs of the readers see the bodies of.
use Rattle.rules.specs.Edition2
use Rattle.rules.specs.Form
use Rattle.text.specs.Capped
use Rattle.many_text.specs.Tables

unfoldable pub readers : Unit {0}
unfolding Edition2.centre_digit Form.onward Form.either Form.only Capped.capped Tables.good_table
readers = tt
