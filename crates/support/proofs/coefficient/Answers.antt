use Rattle.std.specs.Prelude.{Option, Some, None, MatchOption, List, eqb, length}
use Rattle.std.specs.List.{position as first_place}
use Rattle.std.proofs.Common.{◌≡◌, sym, ap, rules, ◌∙◌, arith, ℕ, ℤ, pos, get_or}
use lib.ListN.{get_or-eq_default}
use Rattle.laws.specs.Integer.{read_back}
use Rattle.rules.specs.Store.{coefficient_of}
use Rattle.theorems.specs.Terms.{terms_over}
use Rattle.support.specs.Support.{coefficient-at, placed}
use Rattle.support.proofs.coefficient.Goals as goal

-- the answer in its two cases
value : (coefs : List ℤ) (sources : List ℕ) (node : ℕ) (x : ℤ) (r : Option ℕ) → length sources ≡ length coefs → r ≡ first_place (λ m. eqb m node) sources
    → MatchOption r (x ≡ pos 0) (λ k. x ≡ get_or coefs k (pos 0)) → x ≡ coefficient_of (terms_over coefs sources) node
value coefs sources node x (Some k) e p m = m ∙ ap (λ k. get_or coefs k (pos 0)) (placed sources node (Some k) p).0 ∙ sym (coefficient-at coefs sources node e)
value coefs sources node x None e p m = m ∙ sym (coefficient-at coefs sources node e ∙ get_or-eq_default coefs (pos 0) (omega (arith, placed sources node None p)))

-- `support::coefficient` meets its contract.
pub returns : goal.returns
returns c =
    let m : MatchOption c.place.result (c.map_or.result ≡ pos 0) (λ k. c.map_or.result ≡ get_or c.args.coefs.now k (pos 0)) = search rules in
    read_back _ c.map_or.type_inv ∙ value c.args.coefs.now c.args.sources.now c.args.node c.map_or.result c.place.result c.requires c.place.ensures m
