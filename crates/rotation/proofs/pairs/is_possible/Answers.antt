use Rattle.std.proofs.Common.{sym, ◌∙◌, arith, map, le-leb}
use Rattle.std.proofs.lemmas.Bool.{lt-leb}
use Rattle.std.proofs.lemmas.List.{length-map}
use Rattle.theorems.specs.CompletionTests.{completable-small, completable_long, completable-left}
use Rattle.rotation.specs.Entries.{entries_of, numbers-length}
use Rattle.rotation.proofs.pairs.is_possible.Goals as goal

-- `rotation::pairs::is_possible` meets its contract.
pub returns-then-known-size : goal.returns-then-known-size
returns-then-known-size g c f say =
    let long = numbers-length (map f c.args.known.now) ∙ length-map c.args.known.now f in
    le-leb _ _ c.if-known-size.true ∙ sym (completable-small _ _ (omega arith))

pub returns-else-known-size-2 : goal.returns-else-known-size-2
returns-else-known-size-2 g c f say =
    let long = numbers-length (map f c.args.known.now) ∙ length-map c.args.known.now f in
    lt-leb _ _ c.if-known-size-2.false ∙ sym (completable_long _ _ (omega arith))

pub returns-then-known-size-2 : goal.returns-then-known-size-2
returns-then-known-size-2 g c f say =
    let long = numbers-length (map f c.args.known.now) ∙ length-map c.args.known.now f in
    c.has_common_sum.ensures f say ∙ completable-left _ _ (entries_of (map f c.args.known.now)) (omega arith) (omega arith)
