use Rattle.std.proofs.Common.{◌≡◌, ◌≢◌, rules, take}
use borrow.Author.Tests.{tests}
use Rattle.std.proofs.lemmas.Iterator.{cases_from_all, YieldsList-from_slice}
use Rattle.rules.specs.declared.Entry.{Entry}
use Rattle.rules.specs.Builder.{known_or}
use Rattle.rotation.specs.Entries.{number_of_entry}
use Rattle.cone.specs.Unary.{all_found}
use Rattle.cone.proofs.unary.all_equal.Goals as goal

-- `cone::unary::all_equal` meets its contract.
pub returns : goal.returns
returns c =
    let first = c.first_truth-first.result in
    all_found c.args.c first c.first_truth-first.ensures c.span.result c.all.result c.span.ensures
    (cases_from_all _ _ _ (λ (x : Entry). known_or first (number_of_entry x) ≡ first) (λ (x : Entry). known_or first (number_of_entry x) ≢ first) c.all.ensures.ran
    (YieldsList-from_slice (take c.span.result c.args.c.known) c.iter.ensures.rest) (λ x q k. search (rules, tests)) (λ x q k. search (rules, tests)))
