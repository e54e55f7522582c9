use Rattle.std.proofs.Common.{ℕ, ◌-◌, ◌≡◌, refl, arith, rules, true, false, map, length}
use borrow.Author.Tests.{tests}
use Rattle.std.proofs.lemmas.Iterator.{cases_from_all, YieldsList-from_range}
use Rattle.std.proofs.lemmas.List.{length-map}
use Rattle.rules.specs.Builder.{remains_at}
use Rattle.rotation.specs.Entries.{numbers, numbers-length}
use Rattle.rotation.specs.Pairs.{all_remain_at}
use Rattle.rotation.proofs.pairs.remains_for_all.Goals as goal

-- `rotation::pairs::remains_for_all` meets its contract.
pub returns : goal.returns
returns g c f say =
    let n : ℕ = length c.args.known.now - c.args.size in
    all_remain_at _ _ n _ _ (rw (numbers-length, length-map) refl)
    (cases_from_all _ _ _
    (λ (i : ℕ). remains_at c.args.sum c.args.size (numbers (map f c.args.known.now)) i ≡ true)
    (λ (i : ℕ). remains_at c.args.sum c.args.size (numbers (map f c.args.known.now)) i ≡ false)
    c.all.ensures.ran (YieldsList-from_range 0 n n (search rules) (omega arith)) (λ x q k. search (rules, tests, say)) (λ x q k. search (rules, tests, say)))
