use Rattle.std.proofs.Common.{◌≡◌, ◌≢◌, sym, ◌∙◌, List, Bool, true, false, ℕ, ◌<◌, rules, arith, length, get_or}
use Rattle.std.proofs.lemmas.Iterator.{cases_from_all, YieldsList-from_slice}
use Rattle.std.specs.Bool.{MatchBool}
use Rattle.std.specs.List.{AllWithin, HoldsAt}
use borrow.Author.Tests.{tests}
use Rattle.theorems.specs.Truths.{all_equal_true, all_equal_false}
use Rattle.rules.specs.Composition.{all_equal}
use Rattle.attempt.proofs.all_equal.Goals as goal

-- `attempt::all_equal` meets its contract: all are the first one, or one is not.
all_found : (l : List ℕ) (first : ℕ) → first ≡ get_or l 0 0 → (r : Bool) → MatchBool r (AllWithin (λ x. x ≡ first) l 0 (length l)) ((k : ℕ) × (k < length l) × HoldsAt (λ x. x ≢ first) l k) → r ≡ all_equal l
all_found l first e true a = sym (all_equal_true l (λ i h. a i 0 (omega arith) h ∙ e))
all_found l first e false (k, h, d) = sym (all_equal_false l k h (λ f. d 0 (f ∙ sym e)))

pub returns : goal.returns
returns c =
    let first = c.in-Some.field-0.now in
    all_found c.args.truth.now first (c.in-Some.ensures.item.3.1 0) c.all.result
    (cases_from_all _ _ _ (λ x. x ≡ first) (λ x. x ≢ first) c.all.ensures.ran (YieldsList-from_slice c.args.truth.now c.iter.ensures.rest) (λ x q k. search (rules, tests)) (λ x q k. search (rules, tests)))
