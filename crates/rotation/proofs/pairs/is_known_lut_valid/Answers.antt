use Rattle.std.proofs.Common.{ap, ◌∙◌, rules}
use Rattle.std.proofs.lemmas.List.{map-id}
use Rattle.rules.specs.Builder.{completable}
use Rattle.rotation.specs.Entries.{numbers}
use Rattle.rotation.proofs.pairs.is_known_lut_valid.Goals as goal

-- `rotation::pairs::is_known_lut_valid` meets its contract.
pub returns : goal.returns
returns c = c.is_possible.ensures (λ x. x) (λ x e q. search rules) ∙ ap (λ l. completable c.args.size (numbers l)) (map-id c.args.known.now)
