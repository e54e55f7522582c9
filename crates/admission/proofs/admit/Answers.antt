use Rattle.std.proofs.Common.{rules}
use Rattle.admission.specs.Entry.{admit_good}
use Rattle.admission.proofs.admit.Goals as goal

pub returns : goal.returns
returns c =
    admit_good c.args.text.now c.in_ok-read.field-0 c.read.new.network _ c.stats_of.result c.in_ok-read.ensures.net c.in_ok-read.ensures.is (search rules) c.stats_of.ensures
